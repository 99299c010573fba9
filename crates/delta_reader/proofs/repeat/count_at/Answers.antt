-- `delta_reader::repeat::count_at` meets its contract. Assumes nothing.
use Rattle.delta_reader.proofs.element.Laws.{width-counts}
use Rattle.delta_reader.proofs.repeat.count_at.Goals as goal

pub with_width-requires : goal.with_width-requires
with_width-requires c = width-counts
