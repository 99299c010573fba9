-- `draw_sheet::advance::advance` meets its contract: before each turn what is carried fits the memory, and the sheet was read on from
-- where it was (`Onward`). The measure is what is left of a u64 for the index. Assumes nothing.
use Rattle.std.proofs.Common.{◌-◌, ◌≤◌}
use Rattle.sheet_stream.specs.Progress.{CarriedFits}
use Rattle.draw_sheet.specs.Ahead.{ReadTo, Onward}
use Rattle.draw_sheet.proofs.advance.advance.Given as goal

abbrev pub invariant-loop-now : goal.invariant-loop-now
invariant-loop-now l =
    record {
      fits : CarriedFits l.now.at l.memory.table;
      within : l.now.count ≤ 8192;
      held : l.now.held ≤ 32778;
      onward : (w : ReadTo l.initial.now l.initial.memory.bytes l.initial.memory.table l.initial.memory.content l.n)
          → Onward w l.now l.memory.bytes l.memory.table l.memory.content l.n;
    }

abbrev pub decreases-loop-now : goal.decreases-loop-now
decreases-loop-now l = 18446744073709551615 - l.now.at.index
