-- `sheet_to_text::range::RowRange::has` meets its contract. Assumes nothing.
use Rattle.std.proofs.Common.{sym}
use borrow.Author.Tests.{leb-true, leb-false, lt-leb}
use lib.Dec.{leb}
use Rattle.row_format.specs.Lists.Laws.{by-test}
use Rattle.sheet_to_text.specs.RowRange.Laws.{asked-below, asked-above, asked-within}
use Rattle.sheet_to_text.proofs.range.RowRange.has.Goals as goal

pub returns-then-self-row : goal.returns-then-self-row
returns-then-self-row c =
    by-test (leb c.args.row c.args.self.last)
    (λ t. rw t (sym (asked-within c.args.self c.args.row c.if-self-row.true (leb-true c.args.row c.args.self.last t))))
    (λ t. rw t (sym (asked-above c.args.self c.args.row c.if-self-row.true (leb-false c.args.row c.args.self.last t))))

pub returns-else-self-row : goal.returns-else-self-row
returns-else-self-row c =
    rw (lt-leb c.args.self.first c.args.row c.if-self-row.false) (sym (asked-below c.args.self c.args.row c.if-self-row.false))
