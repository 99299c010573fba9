-- `SheetState::line_place` meets its contract: a line comes where there is a table. Assumes nothing.
use native.Mathlib.Omega.{arith}
use Rattle.sheet_format.proofs.place.Laws.{line_first, line-later}
use Rattle.sheet_format.proofs.SheetState.line_place.Goals as goal

pub returns-in-0 : goal.returns-in-0
returns-in-0 c = λ x h is. line_first c.args.self x is h c.in-0.is

pub returns-in_default : goal.returns-in_default
returns-in_default c = λ x h is. line-later c.args.self x is h (λ e. omega arith)
