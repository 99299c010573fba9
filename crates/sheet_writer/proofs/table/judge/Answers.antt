-- `sheet_writer::table::judge` meets its contract: a second table, and then the number of packing no pixels, which is the
-- table's. Assumes nothing.
use mathlib.Core.Path.{refl, sym, ap, ◌∙◌}
use Rattle.std.proofs.lemmas.Result.{err_from_is_err_and}
use Rattle.answer.specs.Outcome.Laws.{given-next}
use Rattle.row_format.proofs.Calls.Laws.{packed-nothing}
use Rattle.sheet_writer.proofs.table.judge.Goals as goal

pub returns-in_err-count_of-clause-number : goal.returns-in_err-count_of-clause-number
returns-in_err-count_of-clause-number c = λ x h is.
    let p = err_from_is_err_and c.from_residual-in_err-count_of.result c.from_residual-in_err-count_of.ensures.1 in
    let number = ap (λ o. o.answer.number) c.pack.ensures ∙ packed-nothing _ _ _ refl in
    rw (p.1, p.2) (given-next (sym (c.in_ok-table_place.ensures x h is)) (sym c.in_err-count_of.ensures.0 ∙ number))

pub returns-clause-number : goal.returns-clause-number
returns-clause-number c = λ x h is.
    let number = ap (λ o. o.answer.number) c.pack.ensures ∙ packed-nothing _ _ _ refl in
    given-next (sym (c.in_ok-table_place.ensures x h is)) (sym c.in_ok-count_of.ensures.0 ∙ number)
