-- `table_shelf::fill::fill_place` meets its contract. Assumes nothing.
use Rattle.table_shelf.proofs.fill.Laws.{placed-is}
use Rattle.table_shelf.proofs.fill.fill_place.Goals as goal

pub returns : goal.returns
returns c = placed-is c.args.shelf.now c.args.place c.fill.ensures
