-- `sheet_picture::size::picture_width` meets its contract, with a map and without. Assumes nothing.
use native.Mathlib.Omega.{arith}
use mathlib.Core.Path.{sym}
use Rattle.sheet_picture.specs.View.Laws.{width-none, width_some}
use Rattle.sheet_picture.proofs.size.picture_width.Goals as goal

pub returns-then-view-eq0 : goal.returns-then-view-eq0
returns-then-view-eq0 c = λ b. sym (width-none c.args.view b c.if-view-eq0.true)

pub returns : goal.returns
returns c = λ b.
    let some = width_some c.args.view b c.if-view-eq0.false in
    omega (arith, some, c.beside_times.ensures)
