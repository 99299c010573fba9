-- `table_listing::line::put_bits`: i bits are put before each turn. Assumes nothing.
use Rattle.std.proofs.Common.{map}
use Rattle.row_format.specs.Table.{codeword}
use Rattle.text.specs.Text.{digit}
use Rattle.table_listing.proofs.line.PutBitsTurn.{Putting}
use Rattle.table_listing.proofs.line.put_bits.Given as goal

abbrev pub invariant-loop-i : goal.invariant-loop-i
invariant-loop-i l = Putting l.initial.out l.at (map digit (codeword l.w)) l.i l.out
