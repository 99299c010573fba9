use Rattle.std.proofs.Common.{◌≡◌, length, arith}
use Rattle.prefix_free.proofs.part.SplitTurn.{parted-more, parted-split, reordered-more}
use Rattle.prefix_free.proofs.part.split.Goals as goal

pub loop-i-preserved : goal.loop-i-preserved
loop-i-preserved c =
    let order = reordered-more c.loop-i.i c.loop-i.zeros c.loop-i.invariant.0 (omega arith) (omega arith) in
    (order, rw c.bit.ensures (parted-more c.loop-i.invariant.1 (omega arith)))

pub returns : goal.returns
returns c =
    let end : c.loop-i.i ≡ length c.loop-i.s = omega arith in
    parted-split c.loop-i.invariant.0 (rw end at c.loop-i.invariant.1)
