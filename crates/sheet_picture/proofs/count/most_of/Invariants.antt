-- `sheet_picture::count::most_of` meets its contract: the largest of the counts before i and 1. Assumes nothing.
use Rattle.std.proofs.Common.{◌≡◌, ◌≤◌, drop}
use Rattle.std.specs.Prelude.{max}
use Rattle.bitstream.specs.Bits.{halves_of}
use Rattle.sheet_picture.specs.Grid.{most_of}
use Rattle.sheet_picture.proofs.count.most_of.Given as goal

abbrev pub invariant-loop-i : goal.invariant-loop-i
invariant-loop-i l = (1 ≤ l.most) × (max l.most (most_of (drop l.i (halves_of l.counts))) ≡ most_of (halves_of l.counts))
