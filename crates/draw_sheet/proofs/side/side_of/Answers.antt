-- `draw_sheet::side::side_of` meets its contract. Assumes nothing.
use Rattle.std.proofs.Common.{arith}
use Rattle.draw_sheet.specs.Map.Laws.{side-refused, side-read}
use Rattle.draw_sheet.proofs.side.side_of.Goals as goal

pub returns-then-answer-ne0 : goal.returns-then-answer-ne0
returns-then-answer-ne0 c =
    let both = side-refused c.args.group c.args.bytes.now c.args.total c.args.counts.now c.requires (omega (arith, c.requires, c.read_map-answer.auto))
    c.read_map-answer.ensures c.if-answer-ne0.true in
    record { shown = both.0; read = both.1 }

pub returns : goal.returns
returns c =
    let both = side-read c.args.group c.args.bytes.now c.args.total c.args.counts.now c.requires (omega (arith, c.requires, c.read_map-answer.auto))
    c.read_map-answer.ensures c.if-answer-ne0.false c.most_of.ensures in
    record { shown = both.0; read = both.1 }
