-- `table_shelf::open::opened` meets its contract. Assumes nothing.
use Rattle.std.proofs.Common.{sym}
use Rattle.std.proofs.lemmas.Result.{err_from_is_err_and}
use Rattle.shelf_format.proofs.Calls.Laws.{refusal_some}
use Rattle.table_shelf.proofs.open.Laws.{open-refused, open-short, open_done}
use Rattle.table_shelf.proofs.open.opened.Goals as goal

pub returns-in_err-judge_tables : goal.returns-in_err-judge_tables
returns-in_err-judge_tables c =
    let e = err_from_is_err_and c.from_residual.result c.from_residual.ensures.1 in
    rw (e.1, e.2)
    (open-refused c.args.table0.now c.args.table1.now c.args.table2.now c.args.table3.now c.args.shelf.now
    (c.in_err-judge_tables.ensures) (refusal_some c.in_err-judge_tables.field-0.0))

pub returns-then-shelf-lt-SHELF_BYTES : goal.returns-then-shelf-lt-SHELF_BYTES
returns-then-shelf-lt-SHELF_BYTES c = open-short c.args.table0.now c.args.table1.now c.args.table2.now c.args.table3.now c.args.shelf.now
    (sym (c.in_ok-judge_tables.ensures)) c.if-shelf-lt-SHELF_BYTES.true

pub returns : goal.returns
returns c = open_done c.args.table0.now c.args.table1.now c.args.table2.now c.args.table3.now c.args.shelf.now
    (sym (c.in_ok-judge_tables.ensures)) c.if-shelf-lt-SHELF_BYTES.false c.fill_shelf.ensures
