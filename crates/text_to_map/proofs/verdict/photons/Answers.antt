use Prim.Native.Nat.{◌<◌}
use native.Mathlib.Omega.{arith}
use Rattle.bitstream.specs.Bits.{halves_of}
use Rattle.row_pixels.specs.Laws.{inside-halves, past-halves}
use Rattle.text_to_map.proofs.verdict.PhotonsTurn.{count_low, summing-none, summing-more, summing-all}
use Rattle.text_to_map.proofs.verdict.photons.Goals as goal

pub loop-i-init : goal.loop-i-init
loop-i-init c = summing-none (halves_of c.args.counts.now)

pub overflow_add-all : goal.overflow_add-all
overflow_add-all c = let low = count_low c.args.counts.now c.loop-i.i in
    omega (arith, c.loop-i.invariant.low, c.pixel_at.ensures, low, c.requires, c.loop-i-test.true)

pub loop-i-preserved : goal.loop-i-preserved
loop-i-preserved c = let inside = inside-halves c.args.counts.now c.loop-i-test.true in
    let small : c.pixel_at.result < 65536 = omega (arith, c.pixel_at.ensures, count_low c.args.counts.now c.loop-i.i) in
    rw c.from-all.ensures (summing-more c.loop-i.invariant inside c.pixel_at.ensures small)

pub returns : goal.returns
returns c = summing-all c.loop-i.invariant (past-halves c.args.counts.now c.loop-i-test.false)
