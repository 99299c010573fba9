-- `pixels::pixels`. The invariant, `Pixels`: the whole reading is what stands in memory and then what is read from the next place
-- on. Assumes nothing.
use Rattle.std.proofs.Common.{◌≡◌, length}
use Rattle.bitstream.specs.Bits.{halves_of}
use Rattle.bitstream.specs.Msb.{msb_bits_of}
use Rattle.mat_map.specs.Step.{Pixels}
use Rattle.mat_map.proofs.pixels.pixels.Given as goal

abbrev pub invariant-loop-i : goal.invariant-loop-i
invariant-loop-i l = (length l.own ≡ length l.initial.own)
    × Pixels (msb_bits_of l.s) l.at l.n l.place (halves_of l.initial.own) (halves_of l.own) l.next l.sum l.i
