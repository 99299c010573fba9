-- `table_shelf::place::is_free` meets its contract. Assumes nothing.
use mathlib.Core.Path.{ap}
use lib.Dec.{eqb}
use Rattle.shelf_format.specs.Shelf.{is_free}
use Rattle.table_shelf.proofs.place.is_free.Goals as goal

pub returns : goal.returns
unfolding is_free
returns c = ap (λ n. eqb n 0) c.size_at.ensures
