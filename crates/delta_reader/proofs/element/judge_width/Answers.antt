-- `delta_reader::element::judge_width` meets its contract. Assumes nothing.
use native.Mathlib.Omega.{arith}
use Rattle.delta_reader.proofs.element.Laws.{width-8, width-16, width-32, width-other}
use Rattle.delta_reader.proofs.element.judge_width.Goals as goal

pub returns-then-bits-eq8 : goal.returns-then-bits-eq8
returns-then-bits-eq8 c = width-8 c.if-bits-eq8.true

pub returns-else-bits-eq8 : goal.returns-else-bits-eq8
returns-else-bits-eq8 c = width-other c.args.bits c.if-bits-eq8.false (λ e. omega (arith, c.if-bits-lt16.true, e)) (λ e. omega (arith, c.if-bits-lt16.true, e))

pub returns-then-bits-eq16 : goal.returns-then-bits-eq16
returns-then-bits-eq16 c = width-16 c.if-bits-eq16.true

pub returns-else-bits-eq16 : goal.returns-else-bits-eq16
returns-else-bits-eq16 c = width-other c.args.bits (λ e. omega (arith, c.if-bits-lt16.false, e)) c.if-bits-eq16.false (λ e. omega (arith, c.if-bits-lt32.true, e))

pub returns-then-bits-eq32 : goal.returns-then-bits-eq32
returns-then-bits-eq32 c = width-32 c.if-bits-eq32.true

pub returns-else-bits-eq32 : goal.returns-else-bits-eq32
returns-else-bits-eq32 c = width-other c.args.bits (λ e. omega (arith, c.if-bits-lt32.false, e)) (λ e. omega (arith, c.if-bits-lt32.false, e)) c.if-bits-eq32.false
