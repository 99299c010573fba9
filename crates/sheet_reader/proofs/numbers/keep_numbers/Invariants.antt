-- `sheet_reader::numbers::keep_numbers` meets its contract: where less than the room is lent nothing is said of the
-- memory. The loop's invariant: i numbers are read and stand at the front of the memory, the rest is as it was.
-- Assumes nothing.
use Rattle.sheet_reader.proofs.numbers.Laws.{NumbersKept}
use Rattle.sheet_reader.proofs.numbers.keep_numbers.Given as goal

abbrev pub invariant-loop-i : goal.invariant-loop-i
invariant-loop-i l = NumbersKept l.count l.line l.initial.content l.content l.at l.i
