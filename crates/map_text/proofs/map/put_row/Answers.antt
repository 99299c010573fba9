-- `map_text::map::put_row` meets its contract: the first count, 127 more, the line's end. Assumes nothing.
use Prim.Native.Nat.{◌+◌, ◌≤◌, ◌<◌}
use native.Mathlib.Omega.{arith}
use lib.ListN.{length}
use Rattle.bitstream.specs.Bits.{halves_of}
use Rattle.text.specs.Put.Laws.{put-put}
use Rattle.row_pixels.specs.Laws.{length-halves}
use Rattle.map_text.specs.MapText.Laws.{row-all}
use Rattle.map_text.proofs.map.put_row.Goals as goal

pub returns : goal.returns
returns c = let xs = halves_of c.args.counts.now in
    let some : c.args.first < length xs = omega (arith, length-halves c.args.counts.now) in
    let room : c.args.at ≤ length c.args.out.now = omega arith in
    let counts = put-put room c.put_count-next.ensures.put c.put_spaced-end.ensures.put in
    let most : c.put_bytes.result ≤ c.args.at + 768 = omega (arith, c.put_bytes.ensures.next) in
    record { put = rw (row-all xs c.args.first some) (put-put room counts c.put_bytes.ensures); most = most }
