-- `table_shelf::place::size_at` meets its contract. Assumes nothing.
use mathlib.Core.Path.{ap, ◌∙◌}
use Rattle.bitstream.specs.Bits.{words_of}
use Rattle.row_format.specs.Table.{table_size}
use Rattle.table_shelf.proofs.place.Laws.{place-part}
use Rattle.table_shelf.proofs.place.size_at.Goals as goal

pub returns : goal.returns
returns c = c.table_size.ensures ∙ ap (λ b. table_size (words_of b)) (place-part c.args.shelf.now c.args.place)
