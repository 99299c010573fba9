use Rattle.std.proofs.Common.{arith}
use Rattle.sheet_to_text.specs.RowRange.Laws.{dash-here, dash-later, dash-end}
use Rattle.sheet_to_text.proofs.range.before_dash.Goals as goal

pub returns-then-b-eq45-clause-is : goal.returns-then-b-eq45-clause-is
returns-then-b-eq45-clause-is c = omega (arith, c.loop-i.invariant, dash-here c.args.word.now c.loop-i.i (omega arith) c.if-b-eq45.true)

pub loop-i-preserved : goal.loop-i-preserved
loop-i-preserved c = omega (arith, c.loop-i.invariant, dash-later c.args.word.now c.loop-i.i (omega arith) c.if-b-eq45.false)

pub returns-clause-is : goal.returns-clause-is
returns-clause-is c = omega (arith, c.loop-i.invariant, dash-end c.args.word.now c.loop-i.i (omega arith) (omega arith))
