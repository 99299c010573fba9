-- `sheet_picture::row::put_each` meets its contract: before each turn the samples of i heights are put. Assumes nothing.
use Rattle.std.proofs.Common.{◌+◌, map, take}
use Rattle.bitstream.specs.Bits.{halves_of}
use Rattle.text.specs.Put.{Put}
use Rattle.sheet_picture.specs.Colour.{height_index}
use Rattle.sheet_picture.specs.View.{range_of}
use Rattle.sheet_picture.proofs.row.put_each.Given as goal

abbrev pub invariant-loop-i : goal.invariant-loop-i
invariant-loop-i l = Put l.initial.out 14 (map (height_index (range_of l.view)) (take l.i (halves_of l.pixels))) (14 + l.i) l.out
