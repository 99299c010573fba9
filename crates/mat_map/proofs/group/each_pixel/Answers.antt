-- `group::each_pixel`: the pixels, and 20 where they have fewer than three photons. Assumes nothing.
use native.Mathlib.Omega.{arith}
use mathlib.Core.Path.{refl}
use lib.Pow.{pow_pos, pow_mono}
use Rattle.bitstream.specs.Bits.{halves_of}
use Rattle.bitstream.specs.Msb.{msb_bits_of}
use Rattle.row_pixels.specs.Laws.{length-halves}
use Rattle.mat_map.specs.Step.Group.{each-stop, each-few, each-put}
use Rattle.std.specs.Prelude.{Ok, Err}
use Rattle.std.proofs.lemmas.Result.{err_from_is_err_and}
use Rattle.mat_map.specs.Step.{as_stepped}
use Rattle.mat_map.proofs.Laws.{not_done}
use Rattle.mat_map.proofs.group.each_pixel.Goals as goal

pub pixels-requires : goal.pixels-requires
pixels-requires c = let some = pow_pos c.args.k in
    let most = pow_mono {i = c.args.k} {j = 4} c.requires.few in record { n_nonzero = omega (arith, c.power.ensures, some); n_bound = omega (arith, c.power.ensures, most); at_bound = c.requires.near; n_in_bounds = omega (arith, c.power.ensures, c.requires.room, length-halves c.args.own.now) }

pub returns-in_err-all : goal.returns-in_err-all
returns-in_err-all c =
    let p = err_from_is_err_and c.from_residual.result c.from_residual.ensures.1 in
    rw (p.1, p.2)
    (each-stop (msb_bits_of c.args.s.now) c.args.k c.args.at c.args.place c.power.result (halves_of c.args.own.now)
    (halves_of c.pixels.new.own) (as_stepped (Err c.in_err-all.field-0.0)) c.power.ensures c.in_err-all.ensures (not_done c.in_err-all.field-0.0))

pub returns-then-all-lt3 : goal.returns-then-all-lt3
returns-then-all-lt3 c = each-few (msb_bits_of c.args.s.now) c.args.k c.args.at c.args.place c.power.result (halves_of c.args.own.now)
    (halves_of c.pixels.new.own) (as_stepped (Ok c.in_ok-all.all)) c.power.ensures c.in_ok-all.ensures
    refl c.if-all-lt3.true _ refl

pub returns : goal.returns
returns c = each-put (msb_bits_of c.args.s.now) c.args.k c.args.at c.args.place c.power.result (halves_of c.args.own.now)
    (halves_of c.pixels.new.own) (as_stepped (Ok c.in_ok-all.all)) c.power.ensures c.in_ok-all.ensures
    refl c.if-all-lt3.false
