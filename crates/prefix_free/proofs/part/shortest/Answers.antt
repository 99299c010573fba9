use Rattle.std.proofs.Common.{arith, ◌≡◌, length}
use Rattle.prefix_free.proofs.part.ShortestTurn.{shortest-none, shortest-turn}
use Rattle.prefix_free.proofs.part.shortest.Goals as goal

pub loop-w-init : goal.loop-w-init
loop-w-init c = shortest-none _

pub loop-w-preserved : goal.loop-w-preserved
loop-w-preserved c = rw c.min-least.ensures (shortest-turn c.loop-w.invariant)

pub returns : goal.returns
returns c = let end : c.loop-w.w-index ≡ length c.args.s.now = omega (arith, c.loop-w-test.false, c.loop-w.auto.w-index-end) in
    rw end at c.loop-w.invariant
