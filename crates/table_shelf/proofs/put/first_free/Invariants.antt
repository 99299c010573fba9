-- `table_shelf::put::first_free` meets its contract. The invariant: the places before the k-th are taken. Assumes nothing.
use Rattle.table_shelf.proofs.put.Laws.{Taken}
use Rattle.table_shelf.proofs.put.first_free.Given as goal

abbrev pub invariant-loop-k : goal.invariant-loop-k
invariant-loop-k l = Taken l.shelf l.party l.k
