-- `sheet_writer::numbers::line_bytes` meets its contract: the loop's invariant is that `bytes` are what the first i numbers
-- take. Assumes nothing.
use Rattle.sheet_format.specs.Kind.ContourLine.{given_numbers}
use Rattle.sheet_writer.proofs.numbers.Laws.{NumbersReached}
use Rattle.sheet_writer.proofs.numbers.line_bytes.Given as goal

abbrev pub invariant-loop-i : goal.invariant-loop-i
invariant-loop-i l = NumbersReached (given_numbers l.content) l.bytes l.i
