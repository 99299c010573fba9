-- `sheet_picture::size::picture_height` meets its contract, with a map and without. Assumes nothing.
use Rattle.std.proofs.Common.{arith, sym}
use Rattle.sheet_picture.specs.View.Laws.{height-none, height-some}
use Rattle.sheet_picture.proofs.size.picture_height.Goals as goal

pub returns-then-view-eq0 : goal.returns-then-view-eq0
returns-then-view-eq0 c = λ b. sym (height-none c.args.view b c.if-view-eq0.true)

pub returns : goal.returns
returns c = λ b.
    let some = height-some c.args.view b c.if-view-eq0.false in
    omega (arith, some, c.beside_times.ensures, c.max.ensures)
