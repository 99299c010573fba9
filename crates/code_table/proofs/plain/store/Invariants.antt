-- `code_table::plain::store` meets its contract: the invariant is that the words so far are stored and the rest is as it
-- was. Assumes nothing.
use Rattle.code_table.proofs.plain.StoreTurn.{Storing}
use Rattle.code_table.proofs.plain.store.Given as goal

abbrev pub invariant-loop-i : goal.invariant-loop-i
invariant-loop-i l = Storing l.words l.initial.out l.out l.i
