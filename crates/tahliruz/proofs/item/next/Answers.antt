-- `tahliruz::item::next` meets its contract: refused before the place is looked at, or by the reading; or its item is given.
-- Assumes nothing.
use native.Mathlib.Omega.{arith}
use mathlib.Core.Path.{◌≡◌, sym, ap, ◌∙◌}
use borrow.Author.Rules.{rules}
use mir.Facts.{to_z-of_z}
use mir.Syntax.{w32}
use Rattle.std.specs.Prelude.{refl, Err}
use Rattle.answer.specs.Refusal.{refusal_number}
use Rattle.answer.specs.Refusal.Laws.{refusal_not_done}
use Rattle.row_reader.specs.Step.{as_read, item_read}
use Rattle.tahliruz.specs.Items.{place_of, as_item}
use Rattle.tahliruz.specs.Items.Laws.{next-first, next-at, next-refused, next-given}
use Rattle.tahliruz.proofs.item.next.Goals as goal

pub returns-in_err-judge : goal.returns-in_err-judge
returns-in_err-judge c = let refusal = c.in_err-judge.field-0.0 in
    let is : c.from_residual.result ≡ Err refusal = search rules in
    ap (as_item c.args.p) is
    ∙ next-first c.args.table.now c.args.words.now c.args.p (refusal_number refusal) c.in_err-judge.ensures
    (λ z. omega (arith, refusal_not_done refusal))

pub returns-in_err-given : goal.returns-in_err-given
returns-in_err-given c = let refusal = c.in_err-given.field-0.0 in
    let is : c.from_residual-in_err-given.result ≡ Err refusal = search rules in
    let read = c.in_err-given.ensures ∙ ap (item_read c.args.table.now c.args.words.now) c.place_of.ensures in
    ap (as_item c.args.p) is
    ∙ next-refused c.args.table.now c.args.words.now c.args.p c.in_ok-judge.ensures (as_read c.place_of.result (Err refusal)) read
    (λ z. omega (arith, refusal_not_done refusal))

pub flat_place-requires : goal.flat_place-requires
flat_place-requires c = let read = c.in_ok-given.ensures ∙ ap (item_read c.args.table.now c.args.words.now) c.place_of.ensures in
    next-at c.args.table.now c.args.words.now c.args.p c.in_ok-judge.ensures _ read refl

pub returns : goal.returns
returns c = let read = c.in_ok-given.ensures ∙ ap (item_read c.args.table.now c.args.words.now) c.place_of.ensures in
    next-given c.args.table.now c.args.words.now c.args.p c.in_ok-judge.ensures _ read c.kind_of.result _
    c.flat_place.result refl c.kind_of.ensures (to_z-of_z {w = w32} (search rules) ∙ c.step_of.ensures)
    c.flat_place.ensures
