-- `sheet_picture::colour::put_green` meets its contract: no count, or a count. Assumes nothing.
use borrow.Author.Tests.{ne_eqb}
use Rattle.sheet_picture.specs.Colour.{green_colour}
use Rattle.sheet_picture.proofs.colour.put_green.Goals as goal

pub returns-then-t-eq0 : goal.returns-then-t-eq0
unfolding green_colour
returns-then-t-eq0 c = rw c.if-t-eq0.true c.put_rgb.ensures

pub returns : goal.returns
unfolding green_colour
returns c = rw (ne_eqb c.args.t 0 c.if-t-eq0.false) c.put_rgb-2.ensures
