-- `table_listing::arrange::number`: the first i numbers are places before each turn. Assumes nothing.
use Rattle.std.proofs.Common.{length}
use Rattle.table_listing.specs.Order.{places}
use Rattle.table_listing.proofs.arrange.Laws.{Copying}
use Rattle.table_listing.proofs.arrange.number.Given as goal

abbrev pub invariant-loop-i : goal.invariant-loop-i
invariant-loop-i l = Copying (places (length l.initial.list)) l.i l.list
