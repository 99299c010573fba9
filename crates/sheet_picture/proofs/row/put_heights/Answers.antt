-- `sheet_picture::row::put_heights` meets its contract: the heights, then what the row lacks. Assumes nothing.
use Prim.Native.Nat.{◌≤◌, min}
use native.Mathlib.Omega.{arith}
use mathlib.Core.Path.{◌≡◌}
use lib.ListN.{length}
use Rattle.bitstream.specs.Bits.{halves_of}
use Rattle.text.specs.Put.Laws.{put-put}
use Rattle.row_pixels.specs.Laws.{length-halves}
use Rattle.sheet_picture.specs.Colour.{height_index}
use Rattle.sheet_picture.specs.Grid.Laws.{wide-samples, parts-wide}
use Rattle.sheet_picture.specs.Putting.{wide-place}
use Rattle.sheet_picture.specs.View.{range_of}
use Rattle.sheet_picture.proofs.row.put_heights.Goals as goal

pub put_run-requires : goal.put_run-requires
put_run-requires c = let hs = halves_of c.args.pixels.now in
    let few : c.min-n.result ≤ length hs = omega (arith, c.min-n.ensures, length-halves c.args.pixels.now) in
    let parts = parts-wide c.min-n.result c.args.view.width c.args.view.times (omega (arith, c.min-n.ensures)) in
    let place = wide-place (height_index (range_of c.args.view)) hs c.min-n.result c.args.view.times few c.put_samples-next.ensures in
    omega (arith, parts, place)

pub returns : goal.returns
returns c = let is : c.min-n.result ≡ min (length (halves_of c.args.pixels.now)) c.args.view.width = omega (arith, c.min-n.ensures, length-halves c.args.pixels.now) in
    rw (wide-samples (range_of c.args.view) c.args.view.times c.args.view.width c.min-n.result (halves_of c.args.pixels.now) is)
    (put-put (omega arith) c.put_samples-next.ensures c.put_run.ensures)
