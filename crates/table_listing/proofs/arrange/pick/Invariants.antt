-- `table_listing::arrange::pick`: of the places taken those that go the way are put before each turn. Assumes nothing.
use Rattle.bitstream.specs.Bits.{words_of}
use Rattle.row_format.specs.Table.{codeword_at}
use Rattle.table_listing.specs.Way.{way_number}
use Rattle.table_listing.proofs.arrange.PickTurn.{Picking}
use Rattle.table_listing.proofs.arrange.pick.Given as goal

abbrev pub invariant-loop-place : goal.invariant-loop-place
invariant-loop-place l =
    Picking (codeword_at (words_of l.table)) l.d (way_number l.way) l.from l.initial.out l.at l.place-index l.next l.out
