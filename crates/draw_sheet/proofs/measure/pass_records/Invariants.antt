-- `draw_sheet::measure::pass_records` meets its contract: before each turn as many records are behind as turns, and for some bytes that
-- were taken, what is carried comes after them and the width is their widest row's (`Passing`). Assumes nothing.
use Rattle.std.proofs.Common.{◌≡◌}
use Rattle.sheet_stream.specs.Progress.{carried_by, CarriedFits}
use Rattle.draw_sheet.specs.Measure.{Passing}
use Rattle.draw_sheet.proofs.measure.pass_records.Given as goal

abbrev pub invariant-loop : goal.invariant-loop
invariant-loop l =
    record {
      index : l.at.index ≡ l.counter;
      fits : CarriedFits l.at l.memory.table;
      passing : Passing (carried_by l.at l.memory.table) l.width;
    }
