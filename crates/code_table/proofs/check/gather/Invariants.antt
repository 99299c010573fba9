-- `code_table::check::gather` meets its contract: the invariant is that the words so far are copied, right, and their
-- longest length known. Assumes nothing.
use Rattle.std.proofs.Common.{length, drop}
use Rattle.bitstream.specs.Bits.{words_of}
use Rattle.code_table.proofs.check.GatherTurn.{Gathering}
use Rattle.code_table.proofs.check.gather.Given as goal

abbrev pub invariant-loop-i : goal.invariant-loop-i
invariant-loop-i l = Gathering (drop 3 (words_of l.table)) (length l.initial.words) l.words l.longest l.i
