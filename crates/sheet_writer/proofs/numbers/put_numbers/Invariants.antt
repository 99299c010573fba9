-- `sheet_writer::numbers::put_numbers` meets its contract: the loop's invariant is that the first i numbers stand at the
-- front, `at` bytes, and what follows is as it was. Assumes nothing.
use Rattle.sheet_writer.proofs.numbers.PutNumbersTurn.{PuttingNumbers}
use Rattle.sheet_format.specs.Kind.ContourLine.{given_numbers}
use Rattle.sheet_writer.proofs.numbers.put_numbers.Given as goal

abbrev pub invariant-loop-i : goal.invariant-loop-i
invariant-loop-i l = PuttingNumbers (given_numbers l.content) l.initial.out l.out l.at l.i
