-- `list_sheet::list::list_records` meets its contract. The loop's invariant: so many records were listed as the index says, what
-- is carried fits the memory; and for some bytes that were taken, which are accepted records to their end, what is carried is what
-- comes after them (`Underway`). Assumes nothing.
use Rattle.std.proofs.Common.{◌≡◌}
use Rattle.sheet_stream.specs.Progress.{carried_by, CarriedFits, Underway}
use Rattle.list_sheet.proofs.list.list_records.Given as goal

abbrev pub invariant-loop : goal.invariant-loop
invariant-loop l = record {
  index : l.at.index ≡ l.counter;
  fits : CarriedFits l.at l.table;
  underway : Underway (carried_by l.at l.table);
}
