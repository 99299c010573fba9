-- `fits_reader::pixels::copy_pixels` meets its contract: of the pixels the first i stand in memory. Assumes nothing.
use Rattle.std.proofs.Common.{length}
use Rattle.fits_format.specs.Image.{big_endian}
use Rattle.fits_reader.proofs.pixels.Laws.{Copied}
use Rattle.fits_reader.proofs.pixels.copy_pixels.Given as goal

abbrev pub invariant-loop-i : goal.invariant-loop-i
invariant-loop-i l = Copied (big_endian l.width l.image) (length l.initial.pixels) l.pixels l.i
