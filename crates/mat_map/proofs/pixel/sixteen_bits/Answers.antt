-- `pixel::sixteen_bits`: 19, 20, or a pixel above 17. Assumes nothing.
use native.Mathlib.Omega.{arith}
use mathlib.Core.Path.{refl}
use Rattle.bitstream.specs.Msb.{msb_bits_of}
use Rattle.mat_map.specs.Step.Laws.{wide-stop, wide-got, wide-bad}
use Rattle.std.specs.Prelude.{Ok, Err}
use Rattle.std.proofs.lemmas.Result.{err_from_is_err_and}
use Rattle.mat_map.specs.Step.{as_stepped}
use Rattle.mat_map.proofs.Laws.{not_done}
use Rattle.mat_map.proofs.pixel.sixteen_bits.Goals as goal

pub returns-in_err-wide : goal.returns-in_err-wide
returns-in_err-wide c =
    let p = err_from_is_err_and c.from_residual.result c.from_residual.ensures.1 in
    rw (p.1, p.2)
    (wide-stop (msb_bits_of c.args.s.now) c.args.at (as_stepped (Err c.in_err-wide.field-0.0)) c.in_err-wide.ensures (not_done c.in_err-wide.field-0.0))

pub returns-then-wide-gt17 : goal.returns-then-wide-gt17
returns-then-wide-gt17 c = wide-got (msb_bits_of c.args.s.now) c.args.at (as_stepped (Ok c.in_ok-wide.wide)) c.in_ok-wide.ensures refl c.if-wide-gt17.true

pub returns : goal.returns
returns c = wide-bad (msb_bits_of c.args.s.now) c.args.at (as_stepped (Ok c.in_ok-wide.wide)) c.in_ok-wide.ensures refl (omega arith)
    _ refl
