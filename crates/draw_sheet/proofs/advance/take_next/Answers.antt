-- `draw_sheet::advance::take_next` meets its contract. Assumes nothing.
use Rattle.std.proofs.Common.{refl}
use Rattle.sheet_stream.specs.Step.Laws.{next-index}
use Rattle.draw_sheet.specs.Ahead.Laws.{heights-few, onward-ended, onward-on}
use Rattle.draw_sheet.proofs.advance.take_next.Goals as goal

pub returns-then-step-clause-onward : goal.returns-then-step-clause-onward
returns-then-step-clause-onward c = λ w. onward-ended w c.requires.n_value c.in_ok-step.ensures.made c.if-step.true refl refl

pub returns-clause-within : goal.returns-clause-within
returns-clause-within c = rw c.height_bytes.ensures (heights-few c.in_ok-step.ensures.made c.if-step.false)

pub returns-clause-index : goal.returns-clause-index
returns-clause-index c = λ e. next-index c.in_ok-step.ensures.made c.if-step.false

pub returns-clause-onward : goal.returns-clause-onward
returns-clause-onward c = rw c.height_bytes.ensures (λ w. onward-on w c.requires.n_value c.in_ok-step.ensures.made c.if-step.false refl refl)
