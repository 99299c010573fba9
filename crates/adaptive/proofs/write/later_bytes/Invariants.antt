-- `adaptive::write::later_bytes` meets its contract. The loop's invariant: the least number of later bytes is what has been
-- counted and what is left to count from `top` on, the first magnitude that the bytes counted have no room for. The measure
-- is the turns left. Assumes nothing.
use Prim.Native.Nat.{◌-◌}
use Rattle.adaptive.proofs.write.LaterBytesTurn.{Counted}
use Rattle.adaptive.proofs.write.later_bytes.Given as goal

abbrev pub invariant-loop-k : goal.invariant-loop-k
invariant-loop-k l = Counted l.first l.m l.top l.k

abbrev pub decreases-loop-k : goal.decreases-loop-k
decreases-loop-k l = 4 - l.k
