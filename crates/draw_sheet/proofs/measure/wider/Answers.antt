-- `draw_sheet::measure::wider` meets its contract. Assumes nothing.
use Rattle.std.proofs.Common.{◌≡◌, max, arith, sym, ◌∙◌}
use Rattle.sheet_format.specs.Kinds.{kind_of}
use Rattle.draw_sheet.specs.Measure.Laws.{width-row, width-rowless}
use Rattle.draw_sheet.proofs.measure.wider.Goals as goal

pub returns-then-is_row : goal.returns-then-is_row
returns-then-is_row c = let row = sym c.is_row.ensures ∙ c.if-is_row.true in
    let widest = width-row (kind_of c.args.kind).holds c.args.width c.args.count row in
    let wide : c.max.result ≡ max c.args.width c.args.count = omega (arith, c.max.ensures) in
    rw widest wide

pub returns : goal.returns
returns c = let other = sym c.is_row.ensures ∙ c.if-is_row.false in
    sym (width-rowless (kind_of c.args.kind).holds c.args.width c.args.count other)
