use native.Mathlib.Omega.{arith}
use Rattle.bitstream.specs.Bits.{halves_of}
use Rattle.row_pixels.specs.Laws.{inside-halves, past-halves}
use Rattle.mat_map.proofs.Laws.{halves-low}
use Rattle.mat_map.proofs.sum.Laws.{summing-none, summing-more, summing-all}
use Rattle.mat_map.proofs.sum.photons.Goals as goal

pub loop-i-init : goal.loop-i-init
loop-i-init c = summing-none (halves_of c.args.group.now)

pub overflow_add-total : goal.overflow_add-total
overflow_add-total c = let x = halves-low c.args.group.now c.loop-i.i c.pixel_at-total.ensures in
    omega (arith, c.loop-i.invariant.low, x, c.requires)

pub loop-i-preserved : goal.loop-i-preserved
loop-i-preserved c = let inside = inside-halves c.args.group.now (omega arith) in
    summing-more c.loop-i.invariant inside c.pixel_at-total.ensures (halves-low c.args.group.now c.loop-i.i c.pixel_at-total.ensures)

pub returns : goal.returns
returns c = summing-all c.loop-i.invariant (past-halves c.args.group.now (omega arith))
