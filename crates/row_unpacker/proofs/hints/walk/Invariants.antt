-- `hints::walk` is safe, and nothing more is claimed. The invariant says nothing; the measure is the word, whose next is
-- less. Assumes nothing.
use Rattle.row_unpacker.proofs.hints.walk.Given as goal

abbrev pub invariant-loop-i : goal.invariant-loop-i
invariant-loop-i l = Unit {0}

abbrev pub decreases-loop-i : goal.decreases-loop-i
decreases-loop-i l = l.i
