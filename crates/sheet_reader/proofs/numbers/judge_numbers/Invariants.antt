-- `sheet_reader::numbers::judge_numbers` meets its contract: the loop's invariant: i numbers are read, and the line is
-- these and what the bytes from `at` on hold. Assumes nothing.
use Rattle.sheet_reader.proofs.numbers.Laws.{Walked}
use Rattle.sheet_reader.proofs.numbers.judge_numbers.Given as goal

abbrev pub invariant-loop : goal.invariant-loop
invariant-loop l = Walked l.count l.line l.at l.counter
