-- `sheet_writer::plain::judge` meets its contract: its place, and then a test for each refusal of its pixels. Assumes nothing.
use mathlib.Core.Path.{◌∙◌, sym}
use Rattle.answer.specs.Outcome.Laws.{given-next}
use Rattle.sheet_writer.proofs.plain.Laws.{plain-many, plain-high, plain-right}
use Rattle.sheet_writer.proofs.plain.judge.Goals as goal

pub returns-then-content-gt-MAX_PIXELS : goal.returns-then-content-gt-MAX_PIXELS
returns-then-content-gt-MAX_PIXELS c = λ x is.
    given-next (sym (c.in_ok-row_place.ensures x is)) (plain-many _ x _ c.if-content-gt-MAX_PIXELS.true)

pub returns-then-any_above : goal.returns-then-any_above
returns-then-any_above c = λ x is.
    given-next (sym (c.in_ok-row_place.ensures x is))
    (plain-high _ x _ c.if-content-gt-MAX_PIXELS.false (sym c.any_above.ensures ∙ c.if-any_above.true))

pub returns : goal.returns
returns c = λ x is.
    given-next (sym (c.in_ok-row_place.ensures x is))
    (plain-right _ x _ c.if-content-gt-MAX_PIXELS.false (sym c.any_above.ensures ∙ c.if-any_above.false))
