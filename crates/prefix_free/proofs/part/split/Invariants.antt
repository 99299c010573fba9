-- `part::split` meets its contract. The invariant: the first i words are parted, and the words are those of the entry in
-- another order. Assumes nothing.
use Rattle.prefix_free.proofs.part.SplitTurn.{Parted, Reordered}
use Rattle.prefix_free.proofs.part.split.Given as goal

abbrev pub invariant-loop-i : goal.invariant-loop-i
invariant-loop-i l = Reordered l.d l.initial.s l.s × Parted l.d l.s l.i l.zeros
