-- `tahliruz::item::judge` meets its contract: the check's number; else whether begun is above 1. Assumes nothing.
use native.Mathlib.Omega.{arith}
use mathlib.Core.Path.{◌≡◌, sym, ap, ◌∙◌}
use borrow.Author.Rules.{rules}
use Rattle.std.specs.Prelude.{Err}
use Rattle.answer.specs.Outcome.Laws.{given-first, given-next, less_number-none, less_number-given}
use Rattle.answer.specs.Refusal.{result_number}
use Rattle.answer.specs.Refusal.Laws.{refusal_not_done}
use Rattle.row_format.proofs.Calls.Laws.{answer-number}
use Rattle.tahliruz.proofs.item.judge.Goals as goal

pub returns-in_err-max_item_bits : goal.returns-in_err-max_item_bits
returns-in_err-max_item_bits c = let refusal = c.in_err-max_item_bits.field-0.0 in
    let is : c.from_residual.result ≡ Err refusal = search rules in
    ap result_number is
    ∙ given-first _ _ (answer-number c.args.table.now c.in_err-max_item_bits.ensures) (λ z. omega (arith, refusal_not_done refusal))

pub returns-then-p-gt1 : goal.returns-then-p-gt1
returns-then-p-gt1 c = let accepted = sym (answer-number c.args.table.now c.in_ok-max_item_bits.ensures) in
    given-next accepted (sym (less_number-given 1 c.args.p.begun 11 (omega arith)))

pub returns : goal.returns
returns c = let accepted = sym (answer-number c.args.table.now c.in_ok-max_item_bits.ensures) in
    given-next accepted (sym (less_number-none 1 c.args.p.begun 11 (omega arith)))
