-- `row_pixels::any_above` meets its contract: the loop's invariant is that `above` tells it of the pixels passed. Assumes nothing.
use Rattle.bitstream.specs.Bits.{halves_of}
use Rattle.row_pixels.proofs.AnyAboveTurn.{Looking}
use Rattle.row_pixels.proofs.any_above.Given as goal

abbrev pub invariant-loop-i : goal.invariant-loop-i
invariant-loop-i l = Looking (halves_of l.pixels) l.above l.i
