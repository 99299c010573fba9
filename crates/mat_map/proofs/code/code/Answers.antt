-- `code::code` meets its contract: bit after bit. Assumes nothing.
use Rattle.std.proofs.Common.{arith, ◌≡◌, refl, ◌<◌, ◌+◌}
use Rattle.std.specs.Prelude.{Ok, Err}
use Rattle.std.proofs.lemmas.Result.{err_from_is_err_and}
use Rattle.bitstream.specs.Msb.{msb_bits_of}
use Rattle.mat_map.specs.Step.{as_stepped, code_of}
use Rattle.mat_map.specs.Step.Laws.{bit-stop, bit-one}
use Rattle.mat_map.proofs.Laws.{not_done}
use Rattle.mat_map.proofs.code.Laws.{after, zeros-none, zeros-bit, zeros-more, zeros-all}
use Rattle.mat_map.proofs.code.code.Goals as goal

pub loop-zeros-init : goal.loop-zeros-init
loop-zeros-init c = zeros-none (msb_bits_of c.args.s.now) c.args.at

pub returns-in_err-bit : goal.returns-in_err-bit
returns-in_err-bit c =
    let p = err_from_is_err_and c.from_residual.result c.from_residual.ensures.1 in
    let few : c.loop-zeros.zeros < 3 = omega arith in
    rw (p.1, p.2, zeros-bit c.loop-zeros.invariant few (as_stepped (Err c.in_err-bit.field-0.0)) c.in_err-bit.ensures)
    (bit-stop (code_of c.loop-zeros.zeros) (after (c.loop-zeros.zeros + 1)) (msb_bits_of c.args.s.now) c.loop-zeros.next (c.args.at + 3)
    (as_stepped (Err c.in_err-bit.field-0.0)) c.in_err-bit.ensures (not_done c.in_err-bit.field-0.0))

pub returns-then-bit-eq1 : goal.returns-then-bit-eq1
returns-then-bit-eq1 c =
    let few : c.loop-zeros.zeros < 3 = omega arith in
    rw (zeros-bit c.loop-zeros.invariant few (as_stepped (Ok c.in_ok-bit.bit)) c.in_ok-bit.ensures)
    (bit-one (code_of c.loop-zeros.zeros) (after (c.loop-zeros.zeros + 1)) (msb_bits_of c.args.s.now) c.loop-zeros.next (c.args.at + 3)
    (as_stepped (Ok c.in_ok-bit.bit)) c.in_ok-bit.ensures refl (omega (arith, c.loop-zeros.invariant.near)) c.if-bit-eq1.true
    c.loop-zeros.zeros (omega arith) refl _ refl)

pub loop-zeros-preserved : goal.loop-zeros-preserved
loop-zeros-preserved c =
    zeros-more c.loop-zeros.invariant (omega arith) (as_stepped (Ok c.in_ok-bit.bit)) c.in_ok-bit.ensures refl c.if-bit-eq1.false

pub returns : goal.returns
returns c = let all : c.loop-zeros.zeros ≡ 3 = omega arith in zeros-all (rw all at c.loop-zeros.invariant)
