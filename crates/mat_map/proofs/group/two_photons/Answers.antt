-- `group::two_photons`: 19 at either position, or two photons. Assumes nothing.
use native.Mathlib.Omega.{arith}
use Rattle.bitstream.specs.Bits.{halves_of}
use Rattle.bitstream.specs.Msb.{msb_bits_of}
use Rattle.row_pixels.specs.Laws.{length-halves}
use Rattle.mat_map.specs.Step.Group.{first_fits, second_fits, two-stop, second-stop, two-put}
use Rattle.std.specs.Prelude.{refl, Ok, Err}
use Rattle.std.proofs.lemmas.Result.{err_from_is_err_and}
use Rattle.mat_map.specs.Step.{as_stepped}
use Rattle.mat_map.proofs.Laws.{not_done}
use Rattle.mat_map.proofs.group.two_photons.Goals as goal

pub returns-in_err-p : goal.returns-in_err-p
returns-in_err-p c =
    let p = err_from_is_err_and c.from_residual.result c.from_residual.ensures.1 in
    rw (p.1, p.2)
    (two-stop (msb_bits_of c.args.s.now) c.args.k c.args.at c.args.place (halves_of c.args.own.now) c.requires (as_stepped (Err c.in_err-p.field-0.0))
    c.in_err-p.ensures (not_done c.in_err-p.field-0.0))

pub field-requires-2 : goal.field-requires-2
field-requires-2 c = record { n_nonzero = c.requires.some; n_bound = omega (arith, c.requires.few); at_bound = omega (arith, c.requires.few, c.requires.near, (c.in_ok-p.ensures.goes refl).near) }

pub returns-in_err-q : goal.returns-in_err-q
returns-in_err-q c =
    let p = err_from_is_err_and c.from_residual-in_err-q.result c.from_residual-in_err-q.ensures.1 in
    rw (p.1, p.2)
    (second-stop (msb_bits_of c.args.s.now) c.args.k c.args.at c.args.place (halves_of c.args.own.now) c.requires (as_stepped (Ok c.in_ok-p.p))
    c.in_ok-p.ensures
    refl (as_stepped (Err c.in_err-q.field-0.0)) c.in_err-q.ensures (not_done c.in_err-q.field-0.0))

pub overflow_add-place : goal.overflow_add-place
overflow_add-place c = record { fits = omega (arith, c.requires.room, length-halves c.args.own.now, (c.in_ok-p.ensures.goes refl).low) }

pub add_photon-requires : goal.add_photon-requires
add_photon-requires c = record {
  i_in_bounds = omega (arith, c.requires.room, length-halves c.args.own.now, (c.in_ok-p.ensures.goes refl).low);
  i_bound = first_fits (msb_bits_of c.args.s.now) c.args.k c.args.at c.args.place (halves_of c.args.own.now) c.requires
      c.in_ok-p.p.value (c.in_ok-p.ensures.goes refl).low;
}

pub overflow_add-place-2 : goal.overflow_add-place-2
overflow_add-place-2 c = record { fits = omega (arith, c.requires.room, length-halves c.args.own.now, (c.in_ok-q.ensures.goes refl).low) }

pub add_photon-requires-2 : goal.add_photon-requires-2
add_photon-requires-2 c = let low = (c.in_ok-q.ensures.goes refl).low in record {
  i_in_bounds = omega (arith, c.requires.room, length-halves c.args.own.now, low);
  i_bound = second_fits (msb_bits_of c.args.s.now) c.args.k c.args.at c.args.place (halves_of c.args.own.now) c.requires (as_stepped (Ok c.in_ok-p.p))
      c.in_ok-p.ensures
      refl (halves_of c.add_photon.new.counts) c.add_photon.ensures
      c.in_ok-q.q.value low;
}

pub returns : goal.returns
returns c = two-put (msb_bits_of c.args.s.now) c.args.k c.args.at c.args.place (halves_of c.args.own.now) c.requires (as_stepped (Ok c.in_ok-p.p))
    c.in_ok-p.ensures
    refl (halves_of c.add_photon.new.counts) c.add_photon.ensures
    (as_stepped (Ok c.in_ok-q.q)) c.in_ok-q.ensures refl (halves_of c.add_photon-2.new.counts)
    c.add_photon-2.ensures
