-- `mat_map::put_group::position_of` meets its contract: from pixel i on photon m is after `left` others; the measure is the pixels left.
-- Assumes nothing.
use Prim.Native.Nat.{◌-◌, ◌/◌}
use lib.ListN.{length}
use Rattle.bitstream.specs.Bits.{halves_of}
use Rattle.mat_map.proofs.put_group.Laws.{Seeking}
use Rattle.mat_map.proofs.put_group.position_of.Given as goal

abbrev pub invariant-loop-x : goal.invariant-loop-x
invariant-loop-x l = Seeking (halves_of l.group) l.m l.i l.left l.x

abbrev pub decreases-loop-x : goal.decreases-loop-x
decreases-loop-x l = length l.group / 2 - l.i
