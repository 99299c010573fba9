-- `sheet_reader::table::read_table` meets its contract: not whole words, a second table, a table that the check refuses,
-- or one that it accepts. Assumes nothing.
use native.Mathlib.Omega.{arith}
use mathlib.Core.Path.{refl, ◌∙◌}
use Rattle.answer.specs.Refusal.Laws.{refusal_not_done}
use Rattle.sheet_format.specs.Context.{no_heading}
use Rattle.sheet_reader.proofs.answers.Laws.{err-answer, refusal-answer, into-answer}
use Rattle.sheet_reader.proofs.table.Laws.{table-not-words, table-misplaced, table-refused, table-held, no-tables}
use Rattle.sheet_reader.proofs.table.read_table.Goals as goal

pub returns-then-body-ne0 : goal.returns-then-body-ne0
returns-then-body-ne0 c = λ x shows.
    table-not-words c.args.body.now c.args.whole x c.if-body-ne0.true (into-answer c.into.ensures)

pub returns-in_err-table_place : goal.returns-in_err-table_place
returns-in_err-table_place c = λ x shows.
    table-misplaced c.args.body.now c.args.whole x c.if-body-ne0.false
    (c.in_err-table_place.ensures x no_heading shows) (λ e. omega (arith, refusal_not_done c.in_err-table_place.field-0.0))
    (refusal-answer c.from_residual.result c.in_err-table_place.field-0.0 c.from_residual.ensures.1)

pub returns-in_err-check_table : goal.returns-in_err-check_table
returns-in_err-check_table c = λ x shows.
    table-refused c.args.body.now c.args.whole x c.if-body-ne0.false
    (c.in_ok-table_place.ensures x no_heading shows) refl c.in_err-check_table.ensures.number
    c.in_err-check_table.field-0.0.at (λ e. omega (arith, c.in_err-check_table.ensures.some))
    (err-answer c.from_residual-in_err-check_table.result c.in_err-check_table.field-0.0 c.from_residual-in_err-check_table.ensures.1)

pub returns : goal.returns
returns c = λ x shows.
    let place_is = c.in_ok-table_place.ensures x no_heading shows in
    let none = no-tables c.args.body.now c.args.whole x c.if-body-ne0.false place_is refl c.in_ok-check_table.ensures.number in
    table-held c.args.body.now c.args.whole x c.if-body-ne0.false place_is refl c.in_ok-check_table.ensures.number refl
    (c.accepted.ensures ∙ rw (c.after_table.ensures x no_heading c.args.body.now shows none))
