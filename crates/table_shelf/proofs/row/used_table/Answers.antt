-- `table_shelf::row::used_table` meets its contract. Assumes nothing.
use Rattle.std.proofs.Common.{sym, arith}
use Rattle.table_shelf.proofs.row.Laws.{inside, seen}
use Rattle.table_shelf.proofs.row.used_table.Goals as goal

pub table_end-end-requires : goal.table_end-end-requires
table_end-end-requires c = inside c.args.shelf.now c.args.party c.args.place (sym (c.in_ok-judge_use.ensures))

pub slice_bounds-result-end : goal.slice_bounds-result-end
slice_bounds-result-end c = let here = inside c.args.shelf.now c.args.party c.args.place (sym (c.in_ok-judge_use.ensures)) in
    omega (arith, here, c.table_end-end.ensures.least, c.table_end-end.ensures.most)

pub returns-clause-table : goal.returns-clause-table
returns-clause-table c = seen c.args.shelf.now c.args.party c.args.place (sym (c.in_ok-judge_use.ensures)) c.table_end-end.result c.table_end-end.ensures
