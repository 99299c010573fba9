-- `sheet_to_pgm::rows::write_rows` meets its contract. The loop's invariant: as many records are behind as turns, what is carried fits
-- the memory, and it is carried after some bytes that were taken (`Underway`); the lines before the least row are out. Assumes nothing.
use Rattle.std.proofs.Common.{◌≡◌}
use Rattle.sheet_stream.specs.Progress.{carried_by, CarriedFits, Underway}
use Rattle.sheet_to_pgm.proofs.rows.write_rows.Given as goal

abbrev pub invariant-loop : goal.invariant-loop
invariant-loop l =
    record {
      index : l.at.index ≡ l.counter;
      fits : CarriedFits l.at l.memory.table;
      underway : Underway (carried_by l.at l.memory.table);
      lines : l.lines.next ≡ l.at.state.least_row;
    }
