-- `search::cut_short`. The invariant: the rest is a beginning of no codeword in the words before word i. Assumes nothing.
use Rattle.bitstream.specs.Bits.{begins, words_of}
use Rattle.row_unpacker.proofs.search.Laws.{Passed}
use Rattle.row_unpacker.proofs.search.cut_short.Given as goal

abbrev pub invariant-loop-i : goal.invariant-loop-i
invariant-loop-i l = Passed begins (words_of l.table) l.v l.i
