use Rattle.std.proofs.Common.{arith}
use Rattle.bitstream.specs.Bits.{halves_of}
use Rattle.row_pixels.specs.Laws.{inside-halves}
use Rattle.sheet_picture.specs.Colour.{height_index}
use Rattle.sheet_picture.specs.View.{range_of}
use Rattle.sheet_picture.specs.Putting.{each-put}
use Rattle.sheet_picture.proofs.row.put_each.Goals as goal

pub loop-i-preserved : goal.loop-i-preserved
loop-i-preserved c =
    let inside = inside-halves c.args.pixels.now {i = c.loop-i.i} (omega arith) in
    each-put (height_index (range_of c.args.view)) (halves_of c.args.pixels.now) inside c.sample_at.ensures (omega arith) (omega arith) c.loop-i.invariant
