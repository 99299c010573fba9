-- `adaptive::write::put_bytes` meets its contract. The loop's invariant: the bytes that are still to be written, and then the
-- lent memory from there on, are what the whole is to be. The measure is the number of those bytes. Assumes nothing.
use Prim.Native.Nat.{◌≤◌}
use mathlib.Core.Path.{◌≡◌}
use mathlib.Core.List.{◌++◌}
use lib.ListN.{length, drop}
use Rattle.adaptive.specs.Number.{continued}
use Rattle.adaptive.proofs.write.put_bytes.Given as goal

abbrev pub invariant-loop-i : goal.invariant-loop-i
invariant-loop-i l = (l.i ≤ length l.initial.out) × (length l.out ≡ length l.initial.out) × (continued l.i l.rest ++ drop l.i l.out ≡ continued l.initial.i l.initial.rest ++ drop l.initial.i l.initial.out)

abbrev pub decreases-loop-i : goal.decreases-loop-i
decreases-loop-i l = l.i
