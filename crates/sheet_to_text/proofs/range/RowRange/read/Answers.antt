-- `sheet_to_text::range::RowRange::read` meets its contract. Assumes nothing.
use Rattle.std.proofs.Common.{sym, ◌∙◌}
use Rattle.sheet_to_text.specs.RowRange.Laws.{range_none, range-is}
use Rattle.sheet_to_text.proofs.range.RowRange.read.Goals as goal

pub returns-then-dash-word : goal.returns-then-dash-word
returns-then-dash-word c = sym (range_none c.args.word.now (sym c.before_dash-dash.ensures.is ∙ c.if-dash-word.true))

pub returns : goal.returns
returns c = c.range_between.ensures
    ∙ range-is c.args.word.now c.before_dash-dash.ensures.is c.read_decimal-first.ensures c.read_decimal-last.ensures
