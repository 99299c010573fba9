-- `part::shortest` meets its contract. The invariant: `least` is the shortest of the words before. Assumes nothing.
use Rattle.prefix_free.specs.Branch.{Shortest}
use Rattle.prefix_free.proofs.part.shortest.Given as goal

abbrev pub invariant-loop-w : goal.invariant-loop-w
invariant-loop-w l = Shortest l.s l.w-index l.least
