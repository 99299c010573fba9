use native.Mathlib.Omega.{arith}
use Rattle.adaptive.specs.Number.Laws.{pow-128-le}
use Rattle.adaptive.proofs.write.LaterBytesTurn.{counted-found, counted-more, counted-all}
use Rattle.adaptive.proofs.write.later_bytes.Goals as goal

pub returns-then-m-top : goal.returns-then-m-top
returns-then-m-top c = counted-found c.loop-k.invariant c.if-m-top.true

pub overflow_mul-top : goal.overflow_mul-top
overflow_mul-top c = omega (arith, pow-128-le c.loop-k-test.true, c.loop-k.invariant.bound)

pub loop-k-preserved : goal.loop-k-preserved
loop-k-preserved c = counted-more c.loop-k.invariant c.loop-k-test.true c.if-m-top.false

pub returns : goal.returns
returns c = counted-all c.loop-k.invariant c.loop-k-test.false
