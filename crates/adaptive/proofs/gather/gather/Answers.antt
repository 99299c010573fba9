use native.Mathlib.Omega.{arith}
use Rattle.adaptive.proofs.gather.GatherTurn.{taken_more, taken-last, taken-short, taken-over}
use Rattle.adaptive.proofs.gather.gather.Goals as goal

pub returns-in_default : goal.returns-in_default
returns-in_default c = taken-short c.loop-i.invariant c.loop-i-test.true c.in_default.ensures.lookup.3

pub returns-then-b-lt128 : goal.returns-then-b-lt128
returns-then-b-lt128 c = let found = c.in-Some.ensures.lookup.3 in
    rw (found.1 0) (taken-last c.loop-i.invariant c.loop-i-test.true found.0 (rw (found.1 0) at c.if-b-lt128.true))

pub loop-i-preserved : goal.loop-i-preserved
loop-i-preserved c = let found = c.in-Some.ensures.lookup.3 in
    rw (found.1 0) (taken_more c.loop-i.invariant c.loop-i-test.true found.0 (rw (found.1 0) at c.if-b-lt128.false))

pub returns : goal.returns
returns c = taken-over c.loop-i.invariant (omega arith)
