-- `pixel::four_bits`: 19, a pixel of 3 to 17, or more bits. Assumes nothing.
use native.Mathlib.Omega.{arith}
use Rattle.bitstream.specs.Msb.{msb_bits_of}
use Rattle.mat_map.specs.Step.Laws.{four-stop, four_low, four-more}
use Rattle.std.specs.Prelude.{refl, Ok, Err}
use Rattle.std.proofs.lemmas.Result.{err_from_is_err_and}
use Rattle.mat_map.specs.Step.{as_stepped}
use Rattle.mat_map.proofs.Laws.{not_done}
use Rattle.mat_map.proofs.pixel.four_bits.Goals as goal

pub returns-in_err-four : goal.returns-in_err-four
returns-in_err-four c =
    let p = err_from_is_err_and c.from_residual.result c.from_residual.ensures.1 in
    rw (p.1, p.2)
    (four-stop (msb_bits_of c.args.s.now) c.args.at (as_stepped (Err c.in_err-four.field-0.0)) c.in_err-four.ensures (not_done c.in_err-four.field-0.0))

pub returns-then-four-lt15 : goal.returns-then-four-lt15
returns-then-four-lt15 c = four_low (msb_bits_of c.args.s.now) c.args.at (as_stepped (Ok c.in_ok-four.four)) c.in_ok-four.ensures refl c.if-four-lt15.true

pub sixteen_bits-requires : goal.sixteen_bits-requires
sixteen_bits-requires c = omega (arith, (c.in_ok-four.ensures.goes refl).near, c.requires)

pub returns : goal.returns
returns c = four-more (msb_bits_of c.args.s.now) c.args.at (as_stepped (Ok c.in_ok-four.four)) c.in_ok-four.ensures refl (omega arith)
    (as_stepped c.sixteen_bits.result) c.sixteen_bits.ensures
