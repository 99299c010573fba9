-- `sheet_to_pgm::judge::judge_sheet` meets its contract. The loop's invariant: as many records are behind as turns, what is carried fits
-- the memory, and after some bytes that were taken the shape is that of their rows (`ShapeUnderway`). Assumes nothing.
use Rattle.std.proofs.Common.{◌≡◌}
use Rattle.sheet_stream.specs.Progress.{carried_by, CarriedFits}
use Rattle.sheet_to_pgm.specs.LineShape.{ShapeUnderway}
use Rattle.sheet_to_pgm.proofs.judge.judge_sheet.Given as goal

abbrev pub invariant-loop : goal.invariant-loop
invariant-loop l =
    record {
      index : l.at.index ≡ l.counter;
      fits : CarriedFits l.at l.memory.table;
      underway : ShapeUnderway (carried_by l.at l.memory.table) l.shape;
    }
