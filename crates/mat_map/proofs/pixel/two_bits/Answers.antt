-- `pixel::two_bits`: 19, a pixel of 0 to 2, or more bits. Assumes nothing.
use native.Mathlib.Omega.{arith}
use Rattle.bitstream.specs.Msb.{msb_bits_of}
use Rattle.mat_map.specs.Step.Laws.{pixel-stop, pixel-two, pixel-more}
use Rattle.std.specs.Prelude.{refl, Ok, Err}
use Rattle.std.proofs.lemmas.Result.{err_from_is_err_and}
use Rattle.mat_map.specs.Step.{as_stepped}
use Rattle.mat_map.proofs.Laws.{not_done}
use Rattle.mat_map.proofs.pixel.two_bits.Goals as goal

pub returns-in_err-two : goal.returns-in_err-two
returns-in_err-two c =
    let p = err_from_is_err_and c.from_residual.result c.from_residual.ensures.1 in
    rw (p.1, p.2)
    (pixel-stop (msb_bits_of c.args.s.now) c.args.at (as_stepped (Err c.in_err-two.field-0.0)) c.in_err-two.ensures (not_done c.in_err-two.field-0.0))

pub returns-then-two-lt3 : goal.returns-then-two-lt3
returns-then-two-lt3 c = pixel-two (msb_bits_of c.args.s.now) c.args.at (as_stepped (Ok c.in_ok-two.two)) c.in_ok-two.ensures refl c.if-two-lt3.true

pub four_bits-requires : goal.four_bits-requires
four_bits-requires c = omega (arith, (c.in_ok-two.ensures.goes refl).near, c.requires)

pub returns : goal.returns
returns c = pixel-more (msb_bits_of c.args.s.now) c.args.at (as_stepped (Ok c.in_ok-two.two)) c.in_ok-two.ensures refl (omega arith)
    (as_stepped c.four_bits.result) c.four_bits.ensures
