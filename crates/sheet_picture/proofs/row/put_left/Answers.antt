-- `sheet_picture::row::put_left` meets its contract: a row that is there, one that is not, or none. Assumes nothing.
use native.Mathlib.Omega.{arith}
use mathlib.Core.List.{[]}
use Rattle.sheet_format.specs.Sheet.{absent}
use Rattle.sheet_picture.specs.Colour.{missing}
use Rattle.sheet_picture.specs.Grid.Laws.{left-inside, widened_same}
use Rattle.sheet_picture.specs.View.{look_of, extent_of}
use Rattle.sheet_picture.proofs.row.put_left.Goals as goal

pub returns-then-y-view : goal.returns-then-y-view
returns-then-y-view c = rw (
  c.if-there.false,
  left-inside (look_of c.args.view []) (extent_of c.args.view) absent c.args.y (omega arith),
  widened_same c.args.view.times c.args.view.width missing,
)
    c.put_run.ensures
