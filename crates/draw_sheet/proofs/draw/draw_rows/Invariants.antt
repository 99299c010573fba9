-- `draw_sheet::draw::draw_rows` is safe, and what goes out is as it must be: before each turn what is carried fits the memory, and the
-- rows before y are drawn (`DrawnTo`) and out. Assumes nothing.
use Rattle.std.proofs.Common.{◌≡◌, ◌/◌, ◌≤◌}
use Rattle.sheet_stream.specs.Progress.{CarriedFits}
use Rattle.draw_sheet.specs.Drawn.{DrawnTo}
use Rattle.draw_sheet.proofs.draw.draw_rows.Given as goal

abbrev pub invariant-loop-y : goal.invariant-loop-y
invariant-loop-y l =
    record {
      fits : CarriedFits l.ahead.at l.memory.table;
      within : l.ahead.count ≤ 8192;
      held : l.ahead.held ≤ 32778;
      to : DrawnTo l.scene.view l.scene.counts.now l.ahead l.memory.bytes l.memory.table l.memory.content (l.y / l.scene.view.times) l.y l.sums;
      next : l.drawn.next ≡ l.y;
    }
