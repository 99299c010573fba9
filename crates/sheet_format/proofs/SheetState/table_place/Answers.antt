-- `SheetState::table_place` meets its contract: a table comes where there is none. Assumes nothing.
use native.Mathlib.Omega.{arith}
use Rattle.sheet_format.proofs.place.Laws.{table-first, table-second}
use Rattle.sheet_format.proofs.SheetState.table_place.Goals as goal

pub returns-in-0 : goal.returns-in-0
returns-in-0 c = λ x h is. table-first c.args.self x is h c.in-0.is

pub returns-in_default : goal.returns-in_default
returns-in_default c = λ x h is. table-second c.args.self x is h (λ e. omega arith)
