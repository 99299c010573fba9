-- `groups::groups`. The invariant, `Groups`: the whole reading is what stands in memory and then what is read from the next place
-- on. Assumes nothing.
use Rattle.std.proofs.Common.{◌≡◌, ◌-◌, ◌*◌, length}
use Rattle.bitstream.specs.Bits.{halves_of}
use Rattle.bitstream.specs.Msb.{msb_bits_of}
use Rattle.map_format.specs.Calls.{map_groups}
use Rattle.mat_map.specs.Step.{Groups}
use Rattle.mat_map.proofs.groups.groups.Given as goal

abbrev pub invariant-loop-i : goal.invariant-loop-i
invariant-loop-i l = (length l.own ≡ length l.initial.own)
    × Groups (msb_bits_of l.s) l.k (halves_of l.own) (map_groups l.k - l.i) (l.i * l.n) l.at l.sum
