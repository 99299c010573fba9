-- `row_item::Progress::after` meets its contract: by the kind of item. Assumes nothing.
use Rattle.row_item.proofs.AfterLaws.{after-difference, after-bad-pixel, after-bad-bias, after-first-escape, after-later-escape}
use Rattle.row_item.proofs.Progress.after.Goals as goal

pub returns-in-Difference : goal.returns-in-Difference
returns-in-Difference c = rw c.in-Difference.is (after-difference c.args.self c.args.pixel _)

pub returns-in-BadPixel : goal.returns-in-BadPixel
returns-in-BadPixel c = rw c.in-BadPixel.is (after-bad-pixel c.args.self c.args.pixel)

pub returns-in-BadBias : goal.returns-in-BadBias
returns-in-BadBias c = rw c.in-BadBias.is (after-bad-bias c.args.self c.args.pixel)

pub returns-then-self : goal.returns-then-self
returns-then-self c = rw c.in-Escape.is (after-later-escape c.args.self c.args.pixel _ c.if-self.true)

pub returns-else-self : goal.returns-else-self
returns-else-self c = rw c.in-Escape.is (after-first-escape c.args.self c.args.pixel _ c.if-self.false)
