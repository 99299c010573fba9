-- `table_listing::list_table`: the check refuses the table, or it is listed. Assumes nothing.
use Rattle.std.proofs.Common.{sym, arith}
use Rattle.std.proofs.lemmas.Result.{err_from_is_err_and}
use Rattle.answer.specs.Refusal.Laws.{refusal_not_done}
use Rattle.row_format.proofs.Calls.Laws.{answer-number}
use Rattle.table_listing.specs.Listing.Answers.{block_refused}
use Rattle.table_listing.proofs.list_table.Goals as goal

pub returns-in_err-max_item_bits : goal.returns-in_err-max_item_bits
returns-in_err-max_item_bits c =
    let e = err_from_is_err_and c.from_residual.result c.from_residual.ensures.1 in
    let is = sym (answer-number c.args.table.now c.in_err-max_item_bits.ensures) in
    rw (e.1, e.2, sym is)
    (sym (block_refused c.args.table.now c.args.first c.args.out.now
    (λ none. omega (arith, refusal_not_done c.in_err-max_item_bits.field-0.0, is, none))))

pub list_strings-requires-clause-table_value : goal.list_strings-requires-clause-table_value
list_strings-requires-clause-table_value c = sym (answer-number c.args.table.now c.in_ok-max_item_bits.ensures)
