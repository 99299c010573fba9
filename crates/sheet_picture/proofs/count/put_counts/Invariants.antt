-- `sheet_picture::count::put_counts` meets its contract: before each turn the samples of i counts are put. Assumes nothing.
use Rattle.std.proofs.Common.{◌*◌, map, take, drop}
use Rattle.bitstream.specs.Bits.{halves_of}
use Rattle.text.specs.Put.{Put}
use Rattle.sheet_picture.specs.Colour.{count_index}
use Rattle.sheet_picture.specs.Grid.{widened, most_of}
use Rattle.sheet_picture.proofs.count.put_counts.Given as goal

abbrev pub invariant-loop-i : goal.invariant-loop-i
invariant-loop-i l = Put l.initial.out l.at
    (widened l.times (map (count_index (most_of (halves_of l.counts))) (take l.i (drop (128 * l.j) (halves_of l.counts))))) l.next l.out
