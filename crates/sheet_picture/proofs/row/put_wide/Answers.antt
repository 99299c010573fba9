use Rattle.std.proofs.Common.{◌≤◌, length, arith}
use Rattle.bitstream.specs.Bits.{halves_of}
use Rattle.text.specs.Put.Laws.{put-none}
use Rattle.row_pixels.specs.Laws.{inside-halves, length-halves}
use Rattle.sheet_picture.specs.Colour.{height_index}
use Rattle.sheet_picture.specs.Grid.{widened}
use Rattle.sheet_picture.specs.View.{range_of}
use Rattle.sheet_picture.specs.Putting.{wide-put, wide_room}
use Rattle.sheet_picture.proofs.row.put_wide.Goals as goal

pub loop-i-init : goal.loop-i-init
unfolding widened
loop-i-init c = put-none c.args.out.now 14

pub put_run-next-requires : goal.put_run-next-requires
put_run-next-requires c = let hs = halves_of c.args.pixels.now in
    let few : c.args.n ≤ length hs = omega (arith, length-halves c.args.pixels.now) in
    let index = height_index (range_of c.args.view) in
    omega (arith, wide_room index hs c.loop-i.i c.args.view.times c.args.n (omega arith) few (omega arith) c.loop-i.invariant)

pub loop-i-preserved : goal.loop-i-preserved
loop-i-preserved c =
    let inside = inside-halves c.args.pixels.now {i = c.loop-i.i} (omega arith) in
    wide-put (height_index (range_of c.args.view)) (halves_of c.args.pixels.now) inside c.sample_at-sample.ensures c.args.view.times (omega arith)
    c.loop-i.invariant c.put_run-next.ensures
