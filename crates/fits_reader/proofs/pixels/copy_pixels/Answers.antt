-- `fits_reader::pixels::copy_pixels` meets its contract. Assumes nothing.
use Rattle.std.proofs.Common.{arith, ◌<◌, sym, ◌∙◌, length}
use Rattle.fits_format.specs.Image.{big_endian}
use Rattle.fits_format.specs.Image.Laws.{length-big_endian, big_endian-at}
use Rattle.fits_reader.proofs.pixels.Laws.{copied_more, copied_all}
use Rattle.fits_reader.proofs.pixels.copy_pixels.Goals as goal

pub loop-i-preserved : goal.loop-i-preserved
loop-i-preserved c =
    let vs = big_endian c.args.width c.args.image.now in
    let size = length-big_endian c.args.width c.args.image.now in
    let inside : c.loop-i.i < c.args.width = omega arith in
    rw c.put_u16.ensures
    (copied_more vs (length c.args.pixels.now) (omega (arith, size, c.requires)) c.loop-i.invariant (omega (arith, size, inside))
    (c.image_pixel.ensures ∙ sym (big_endian-at c.args.width c.args.image.now c.loop-i.i inside)))

pub returns : goal.returns
returns c =
    copied_all (big_endian c.args.width c.args.image.now) (length c.args.pixels.now) c.loop-i.invariant
    (length-big_endian c.args.width c.args.image.now) (omega arith)
