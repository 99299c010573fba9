-- `row_reader::step::item_at` meets its contract: refused before an item is read; or the item is given; or it is faulty.
-- Assumes nothing.
use borrow.Author.Rules.{rules}
use native.Mathlib.Omega.{arith}
use mathlib.Core.Path.{◌≡◌, sym, ap, ◌∙◌}
use Rattle.std.specs.Prelude.{Err}
use Rattle.answer.specs.Refusal.{refusal_number}
use Rattle.answer.specs.Refusal.Laws.{refusal_not_done}
use Rattle.row_unpacker.specs.Item.{numbered}
use Rattle.row_reader.specs.Step.{as_read}
use Rattle.row_reader.specs.Step.Laws.{place_number-stands, step-refused, step-got, step-faulty}
use Rattle.row_reader.proofs.step.item_at.Goals as goal

pub returns-in_err-judge : goal.returns-in_err-judge
returns-in_err-judge c = let refusal = c.in_err-judge.field-0.0 in
    let is : c.from_residual.result ≡ Err refusal = search rules in
    ap (as_read c.args.place) is
    ∙ step-refused c.args.table.now c.args.words.now c.args.place (refusal_number refusal) c.in_err-judge.ensures
    (λ z. omega (arith, refusal_not_done refusal))

pub read_item-requires : goal.read_item-requires
read_item-requires c = let stands = place_number-stands c.args.place (sym c.in_ok-judge.ensures) in
    omega (arith, stands.possible.near, stands.more)

pub returns-in_err-got : goal.returns-in_err-got
returns-in_err-got c = let fault = c.in_err-got.field-0.0 in
    let is : c.from_residual-in_err-got.result ≡ Err fault.refusal = search rules in
    ap (as_read c.args.place) is
    ∙ step-faulty c.args.table.now c.args.words.now c.args.place (sym c.in_ok-judge.ensures) (numbered c.read_item.result)
    c.read_item.ensures (refusal_number fault.refusal) fault.place (ap numbered c.in_err-got.was)

pub overflow_add-result : goal.overflow_add-result
overflow_add-result c = omega (arith, (place_number-stands c.args.place (sym c.in_ok-judge.ensures)).more)

pub returns : goal.returns
returns c =
    step-got c.args.table.now c.args.words.now c.args.place (sym c.in_ok-judge.ensures) (numbered c.read_item.result)
    c.read_item.ensures c.after.result c.in_ok-got.got (ap numbered c.in_ok-got.was) c.after.ensures
