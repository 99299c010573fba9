use Rattle.std.proofs.Common.{arith}
use Rattle.bitstream.specs.Bits.{halves_of}
use Rattle.row_pixels.specs.Laws.{length-halves, inside-halves, past-halves}
use Rattle.sheet_picture.specs.Grid.Laws.{most-some, most-more, most-all}
use Rattle.sheet_picture.proofs.count.most_of.Goals as goal

pub loop-i-init : goal.loop-i-init
loop-i-init c = (omega arith, omega (arith, most-some (halves_of c.args.counts.now)))

pub loop-i-preserved : goal.loop-i-preserved
loop-i-preserved c = let more = most-more (halves_of c.args.counts.now) c.loop-i.i (inside-halves c.args.counts.now c.loop-i-test.true) in
    (omega (arith, c.max-most.ensures), omega (arith, more, c.pixel_at.ensures, c.max-most.ensures))

pub returns : goal.returns
returns c = let all = most-all (halves_of c.args.counts.now) c.loop-i.i (omega (arith, length-halves c.args.counts.now)) (past-halves c.args.counts.now c.loop-i-test.false) in
    omega (arith, all)
