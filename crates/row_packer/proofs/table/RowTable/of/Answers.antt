-- `row_packer::table::RowTable::of` meets its contract: an accepted table has a header. Assumes nothing.
use Rattle.row_packer.proofs.Laws.{header-words}
use Rattle.row_packer.proofs.table.RowTable.of.Goals as goal

pub of-requires : goal.of-requires
of-requires c = header-words c.args.bytes.now c.requires.accepted
