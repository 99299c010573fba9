-- `sheet_writer::line::judge` meets its contract: its place, and then how many numbers there are. Assumes nothing.
use mathlib.Core.Path.{sym}
use Rattle.answer.specs.Outcome.Laws.{given-next}
use Rattle.sheet_writer.proofs.line.Laws.{line-many, line-right}
use Rattle.sheet_writer.proofs.line.judge.Goals as goal

pub returns-then-content-gt-MAX_PIXELS : goal.returns-then-content-gt-MAX_PIXELS
returns-then-content-gt-MAX_PIXELS c = λ x h is.
    given-next (sym (c.in_ok-line_place.ensures x h is)) (line-many h x _ c.if-content-gt-MAX_PIXELS.true)

pub returns : goal.returns
returns c = λ x h is.
    given-next (sym (c.in_ok-line_place.ensures x h is)) (line-right h x _ c.if-content-gt-MAX_PIXELS.false)
