-- `sheet_to_text::range::before_dash`: no byte before place i is a `-`. Assumes nothing.
use Rattle.std.proofs.Common.{◌≡◌, ◌+◌, drop}
use Rattle.sheet_to_text.specs.RowRange.{before_dash}
use Rattle.sheet_to_text.proofs.range.before_dash.Given as goal

abbrev pub invariant-loop-i : goal.invariant-loop-i
invariant-loop-i l = before_dash l.word ≡ l.i + before_dash (drop l.i l.word)
