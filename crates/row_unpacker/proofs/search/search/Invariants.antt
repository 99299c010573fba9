-- `search::search`. The invariant: no codeword in the words before word i begins the rest. Assumes nothing.
use Rattle.bitstream.specs.Bits.{words_of}
use Rattle.row_unpacker.specs.Search.{begun_by}
use Rattle.row_unpacker.proofs.search.Laws.{Passed}
use Rattle.row_unpacker.proofs.search.search.Given as goal

abbrev pub invariant-loop-i : goal.invariant-loop-i
invariant-loop-i l = Passed begun_by (words_of l.table) l.v l.i
