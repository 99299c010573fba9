-- `mat_map::put_pixel::put_pixels` meets its contract: of the pixels the first i are put. Assumes nothing.
use Rattle.bitstream.specs.Bits.{halves_of}
use Rattle.mat_map.proofs.put_pixel.Laws.{PuttingPixels}
use Rattle.mat_map.proofs.put_pixel.put_pixels.Given as goal

abbrev pub invariant-loop-i : goal.invariant-loop-i
invariant-loop-i l = PuttingPixels (halves_of l.group) l.initial.out l.initial.v l.out l.v l.i
