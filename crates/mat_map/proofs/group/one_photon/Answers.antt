-- `group::one_photon`: 19, or one photon at a position. Assumes nothing.
use native.Mathlib.Omega.{arith}
use Rattle.bitstream.specs.Bits.{halves_of}
use Rattle.bitstream.specs.Msb.{msb_bits_of}
use Rattle.row_pixels.specs.Laws.{length-halves}
use Rattle.mat_map.specs.Step.Group.{first_fits, one-stop, one-put}
use Rattle.std.specs.Prelude.{refl, Ok, Err}
use Rattle.std.proofs.lemmas.Result.{err_from_is_err_and}
use Rattle.mat_map.specs.Step.{as_stepped}
use Rattle.mat_map.proofs.Laws.{not_done}
use Rattle.mat_map.proofs.group.one_photon.Goals as goal

pub returns-in_err-p : goal.returns-in_err-p
returns-in_err-p c =
    let p = err_from_is_err_and c.from_residual.result c.from_residual.ensures.1 in
    rw (p.1, p.2)
    (one-stop (msb_bits_of c.args.s.now) c.args.k c.args.at c.args.place (halves_of c.args.own.now) c.requires (as_stepped (Err c.in_err-p.field-0.0))
    c.in_err-p.ensures (not_done c.in_err-p.field-0.0))

pub overflow_add-place : goal.overflow_add-place
overflow_add-place c = record { fits = omega (arith, c.requires.room, length-halves c.args.own.now, (c.in_ok-p.ensures.goes refl).low) }

pub add_photon-requires : goal.add_photon-requires
add_photon-requires c = record {
  i_in_bounds = omega (arith, c.requires.room, length-halves c.args.own.now, (c.in_ok-p.ensures.goes refl).low);
  i_bound = first_fits (msb_bits_of c.args.s.now) c.args.k c.args.at c.args.place (halves_of c.args.own.now) c.requires
      c.in_ok-p.p.value (c.in_ok-p.ensures.goes refl).low;
}

pub returns : goal.returns
returns c = one-put (msb_bits_of c.args.s.now) c.args.k c.args.at c.args.place (halves_of c.args.own.now) c.requires (as_stepped (Ok c.in_ok-p.p))
    c.in_ok-p.ensures
    refl (halves_of c.add_photon.new.counts) c.add_photon.ensures
