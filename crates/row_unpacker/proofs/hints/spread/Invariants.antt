-- `hints::spread` is safe, and nothing more is claimed. The invariant says nothing; the measure is the heads that are left.
-- Assumes nothing.
use Prim.Native.Nat.{◌-◌}
use Rattle.row_unpacker.proofs.hints.spread.Given as goal

abbrev pub invariant-loop-k : goal.invariant-loop-k
invariant-loop-k l = Unit {0}

abbrev pub decreases-loop-k : goal.decreases-loop-k
decreases-loop-k l = 4096 - l.k
