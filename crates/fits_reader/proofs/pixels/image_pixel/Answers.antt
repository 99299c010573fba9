-- `fits_reader::pixels::image_pixel` meets its contract: the first byte counts 256 times. Assumes nothing.
use Prim.Native.Nat.{◌*◌}
use Rattle.fits_reader.proofs.pixels.Laws.{two_bytes_lem}
use Rattle.fits_reader.proofs.pixels.image_pixel.Goals as goal

pub returns : goal.returns
returns c = two_bytes_lem (2 * c.args.i) c.byte_at-high.ensures c.byte_at-low.ensures
