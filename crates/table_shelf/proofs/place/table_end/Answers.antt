-- `table_shelf::place::table_end` meets its contract. Assumes nothing.
use Rattle.table_shelf.proofs.place.Laws.{ends}
use Rattle.table_shelf.proofs.place.table_end.Goals as goal

pub returns : goal.returns
returns c = ends c.args.shelf.now c.args.place c.requires c.size_at.ensures c.min.ensures
