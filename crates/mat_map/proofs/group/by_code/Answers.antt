-- `group::by_code`: by its code, no photon, one, two, or each pixel. Assumes nothing.
use mathlib.Core.Path.{refl, ap}
use Rattle.bitstream.specs.Bits.{halves_of}
use Rattle.bitstream.specs.Msb.{msb_bits_of}
use Rattle.map_format.specs.Reading.{one, two, direct}
use Rattle.mat_map.specs.Step.Group.{ready-later, group-stop, group-dark, group-body, code-last}
use Rattle.mat_map.specs.Step.{code_of}
use Rattle.std.specs.Prelude.{Ok, Err}
use Rattle.std.proofs.lemmas.Result.{err_from_is_err_and}
use Rattle.mat_map.specs.Step.{as_stepped}
use Rattle.mat_map.proofs.Laws.{not_done}
use Rattle.mat_map.proofs.group.by_code.Goals as goal

pub returns-in_err-c : goal.returns-in_err-c
returns-in_err-c c =
    let p = err_from_is_err_and c.from_residual.result c.from_residual.ensures.1 in
    rw (p.1, p.2)
    (group-stop (msb_bits_of c.args.s.now) c.args.k c.args.at c.args.place (halves_of c.args.own.now) (as_stepped (Err c.in_err-c.field-0.0))
    c.in_err-c.ensures (not_done c.in_err-c.field-0.0))

pub returns-then-c-eq0 : goal.returns-then-c-eq0
returns-then-c-eq0 c = group-dark (msb_bits_of c.args.s.now) c.args.k c.args.at c.args.place (halves_of c.args.own.now) (as_stepped (Ok c.in_ok-c.c))
    c.in_ok-c.ensures
    refl c.requires c.if-c-eq0.true

pub one_photon-requires : goal.one_photon-requires
one_photon-requires c = ready-later c.requires (c.in_ok-c.ensures.goes refl).near

pub returns-then-c-eq1 : goal.returns-then-c-eq1
returns-then-c-eq1 c = group-body (msb_bits_of c.args.s.now) c.args.k c.args.at c.args.place (halves_of c.args.own.now) (as_stepped (Ok c.in_ok-c.c))
    c.in_ok-c.ensures
    refl one (ap code_of c.if-c-eq1.true) (halves_of c.one_photon.new.own)
    (as_stepped c.one_photon.result)
    c.one_photon.ensures

pub two_photons-requires : goal.two_photons-requires
two_photons-requires c = ready-later c.requires (c.in_ok-c.ensures.goes refl).near

pub returns-then-c-eq2 : goal.returns-then-c-eq2
returns-then-c-eq2 c = group-body (msb_bits_of c.args.s.now) c.args.k c.args.at c.args.place (halves_of c.args.own.now) (as_stepped (Ok c.in_ok-c.c))
    c.in_ok-c.ensures
    refl two (ap code_of c.if-c-eq2.true) (halves_of c.two_photons.new.own)
    (as_stepped c.two_photons.result)
    c.two_photons.ensures

pub each_pixel-requires : goal.each_pixel-requires
each_pixel-requires c = ready-later c.requires (c.in_ok-c.ensures.goes refl).near

pub returns : goal.returns
returns c = let last = code-last (msb_bits_of c.args.s.now) c.args.k c.args.at c.args.place (halves_of c.args.own.now) (as_stepped (Ok c.in_ok-c.c))
    c.in_ok-c.ensures
    refl c.if-c-eq0.false c.if-c-eq1.false c.if-c-eq2.false in
    group-body (msb_bits_of c.args.s.now) c.args.k c.args.at c.args.place (halves_of c.args.own.now) (as_stepped (Ok c.in_ok-c.c))
    c.in_ok-c.ensures
    refl direct last (halves_of c.each_pixel.new.own) (as_stepped c.each_pixel.result)
    c.each_pixel.ensures
