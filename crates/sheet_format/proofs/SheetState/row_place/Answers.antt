-- `SheetState::row_place` meets its contract: a test for each refusal. Assumes nothing.
use Rattle.sheet_format.proofs.place.Laws.{row_first_lem, row-not-risen, row-above, row-risen}
use Rattle.sheet_format.proofs.SheetState.row_place.Goals as goal

pub returns-then-self-eq0 : goal.returns-then-self-eq0
returns-then-self-eq0 c = λ x is. row_first_lem c.args.self x is _ c.if-self-eq0.true

pub returns-then-row-self : goal.returns-then-row-self
returns-then-row-self c = λ x is.
    row-not-risen c.args.self x is _ c.if-self-eq0.false c.if-row-self.true

pub returns-then-row-gt65535 : goal.returns-then-row-gt65535
returns-then-row-gt65535 c = λ x is.
    row-above c.args.self x is _ c.if-self-eq0.false c.if-row-self.false c.if-row-gt65535.true

pub returns : goal.returns
returns c = λ x is.
    row-risen c.args.self x is _ c.if-self-eq0.false c.if-row-self.false c.if-row-gt65535.false
