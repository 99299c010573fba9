-- `draw_sheet::advance::height_bytes` meets its contract. Assumes nothing.
use mathlib.Core.Path.{sym, ◌∙◌}
use Rattle.sheet_format.specs.Kinds.{kind_of}
use Rattle.draw_sheet.specs.Ahead.Laws.{height-row, height-rowless}
use Rattle.draw_sheet.proofs.advance.height_bytes.Goals as goal

pub returns-then-is_row : goal.returns-then-is_row
returns-then-is_row c = sym (height-row (kind_of c.args.kind).holds c.args.count (sym c.is_row.ensures ∙ c.if-is_row.true))

pub returns : goal.returns
returns c = sym (height-rowless (kind_of c.args.kind).holds c.args.count (sym c.is_row.ensures ∙ c.if-is_row.false))
