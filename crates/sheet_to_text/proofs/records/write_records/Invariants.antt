-- `sheet_to_text::records::write_records` meets its contract. The loop's invariant: as many records are behind as turns, what is carried
-- fits the memory, and it is carried after some bytes that were taken (`Underway`). Assumes nothing.
use Rattle.std.proofs.Common.{◌≡◌}
use Rattle.sheet_stream.specs.Progress.{carried_by, CarriedFits, Underway}
use Rattle.sheet_to_text.proofs.records.write_records.Given as goal

abbrev pub invariant-loop : goal.invariant-loop
invariant-loop l =
    record {
      index : l.at.index ≡ l.counter;
      fits : CarriedFits l.at l.memory.table;
      underway : Underway (carried_by l.at l.memory.table);
    }
