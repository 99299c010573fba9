-- `sheet_to_text::line::put_row_line` meets its contract: the number, the heights, the line's end. Assumes nothing.
use Prim.Native.Nat.{◌/◌}
use native.Mathlib.Omega.{arith}
use mathlib.Core.Path.{◌≡◌}
use lib.ListN.{length, take}
use lib.Seq.{take_all}
use Rattle.bitstream.specs.Bits.{halves_of}
use Rattle.text.specs.Put.Laws.{put-put}
use Rattle.row_pixels.specs.Laws.{length-halves}
use Rattle.map_text.specs.MapText.{row_text}
use Rattle.sheet_to_text.proofs.line.put_row_line.Goals as goal

pub returns : goal.returns
unfolding row_text
returns c = let xs = halves_of c.args.pixels.now in
    let all : take (length c.args.pixels.now / 2) (halves_of c.args.pixels.now) ≡ halves_of c.args.pixels.now =
    take_all (length c.args.pixels.now / 2) xs (omega (arith, length-halves c.args.pixels.now)) in
    let heights = rw all at c.put_spaced-end.ensures.put in
    let front = put-put (omega arith) c.put_decimal-next.ensures.put heights in
    record { put = put-put (omega arith) front c.put_bytes.ensures; most = omega (arith, c.put_bytes.ensures.next) }
