-- `sheet_reader::table::check_table` meets its contract: of no pixels, unpacking gives the table's number. Assumes nothing.
use mathlib.Core.Path.{sym, ap, ◌∙◌}
use Rattle.std.proofs.lemmas.Result.{err_from_is_err_and}
use Rattle.row_format.proofs.Calls.Laws.{unpacked-nothing}
use Rattle.sheet_reader.proofs.table.check_table.Goals as goal

pub returns-in_err-bits_of-clause-number : goal.returns-in_err-bits_of-clause-number
returns-in_err-bits_of-clause-number c = let p = err_from_is_err_and c.from_residual.result c.from_residual.ensures.1 in
    rw (p.1, p.2) (sym c.in_err-bits_of.ensures.0 ∙ ap (λ o. o.answer.number) c.unpack.ensures ∙ unpacked-nothing _ _ _)

pub returns-clause-number : goal.returns-clause-number
returns-clause-number c = sym c.in_ok-bits_of.ensures.0 ∙ ap (λ o. o.answer.number) c.unpack.ensures ∙ unpacked-nothing _ _ _
