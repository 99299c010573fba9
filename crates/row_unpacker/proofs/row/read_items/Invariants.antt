-- `row::read_items`. The invariant, `Partly`: the whole reading is what stands in memory and then what is read from the next place on. Assumes nothing.
use lib.ListN.{length}
use Rattle.bitstream.specs.Bits.{words_of, stream}
use Rattle.row_format.specs.Reading.{read_item}
use Rattle.row_unpacker.proofs.row.Laws.{Partly}
use Rattle.row_unpacker.proofs.row.read_items.Given as goal

abbrev pub invariant-loop-i : goal.invariant-loop-i
invariant-loop-i l = Partly (read_item (words_of l.table)) l.n (stream l.words) (length l.initial.row) l.row l.at l.p l.i
