-- `code_table::check::max_item_bits` meets its contract: either the sizes are wrong, or the codewords decide. Assumes nothing.
use Rattle.code_table.proofs.check.Laws.{checked-sizes}
use Rattle.code_table.proofs.check.max_item_bits.Goals as goal

pub returns-then-not-well_sized : goal.returns-then-not-well_sized
returns-then-not-well_sized c = checked-sizes c.args.table.now (c.well_sized.ensures.wrong c.if-not-well_sized.true)
