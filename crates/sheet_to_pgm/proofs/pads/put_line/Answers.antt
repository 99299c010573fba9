-- `sheet_to_pgm::pads::put_line` meets its contract: the samples of the heights, then the pads. Assumes nothing.
use Prim.Native.Nat.{◌-◌, ◌/◌, ◌≤◌}
use native.Mathlib.Omega.{arith}
use lib.ListN.{length, replicate}
use Rattle.bitstream.specs.Bits.{halves_of}
use Rattle.row_pixels.specs.Laws.{length-halves}
use Rattle.text.specs.Put.Laws.{put-put}
use Rattle.pgm_format.specs.Samples.Laws.{samples_of-append, length-samples_of}
use Rattle.sheet_to_pgm.proofs.pads.put_line.Goals as goal

pub put_pads-requires : goal.put_pads-requires
put_pads-requires c = let size = length-samples_of (halves_of c.args.pixels.now) in
    omega (arith, c.put_samples-next.ensures.put.next, size, length-halves c.args.pixels.now, c.put_samples-next.auto)

pub returns : goal.returns
returns c = let rest = replicate (c.args.width - length c.args.pixels.now / 2) c.args.height in
    let size = length-samples_of (halves_of c.args.pixels.now) in
    let all = put-put (omega arith) c.put_samples-next.ensures.put c.put_pads.ensures.put in
    let most : c.put_pads.result ≤ 8192 =
    omega (arith, c.put_pads.ensures.most, c.put_samples-next.ensures.put.next, size, length-halves c.args.pixels.now) in
    record { put = rw (samples_of-append (halves_of c.args.pixels.now) rest) all; most = most }
