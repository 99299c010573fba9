-- `table_shelf::open::judge_tables` meets its contract. Assumes nothing.
use Rattle.std.proofs.lemmas.Result.{err_from_is_err_and}
use Rattle.shelf_format.proofs.Calls.Laws.{refusal_some}
use Rattle.table_shelf.proofs.open.Laws.{tables-first, tables-next, tables-last}
use Rattle.table_shelf.proofs.open.judge_tables.Goals as goal

pub returns-in_err-judge_table : goal.returns-in_err-judge_table
returns-in_err-judge_table c =
    let e = err_from_is_err_and c.from_residual.result c.from_residual.ensures.1 in
    rw (e.1, e.2) (tables-first _ _ (c.in_err-judge_table.ensures) (refusal_some c.in_err-judge_table.field-0.0))

pub returns-in_err-judge_table-2 : goal.returns-in_err-judge_table-2
returns-in_err-judge_table-2 c =
    let e = err_from_is_err_and c.from_residual-in_err-judge_table-2.result c.from_residual-in_err-judge_table-2.ensures.1 in
    rw (e.1, e.2) (tables-next _ _ (c.in_ok-judge_table.ensures)
    (tables-first _ _ (c.in_err-judge_table-2.ensures) (refusal_some c.in_err-judge_table-2.field-0.0)))

pub returns-in_err-judge_table-3 : goal.returns-in_err-judge_table-3
returns-in_err-judge_table-3 c =
    let e = err_from_is_err_and c.from_residual-in_err-judge_table-3.result c.from_residual-in_err-judge_table-3.ensures.1 in
    rw (e.1, e.2) (tables-next _ _ (c.in_ok-judge_table.ensures) (tables-next _ _ (c.in_ok-judge_table-2.ensures)
    (tables-first _ _ (c.in_err-judge_table-3.ensures) (refusal_some c.in_err-judge_table-3.field-0.0))))

pub returns : goal.returns
returns c = tables-next _ _ (c.in_ok-judge_table.ensures) (tables-next _ _ (c.in_ok-judge_table-2.ensures)
    (tables-next _ _ (c.in_ok-judge_table-3.ensures) (tables-last _ c.judge_table-4.ensures)))
