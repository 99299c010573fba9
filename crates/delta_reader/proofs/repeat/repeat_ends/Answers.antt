-- `delta_reader::repeat::repeat_ends` meets its contract. Assumes nothing.
use Rattle.delta_reader.proofs.element.Laws.{width-counts}
use Rattle.delta_reader.proofs.repeat.repeat_ends.Goals as goal

pub with_width-requires : goal.with_width-requires
with_width-requires c = width-counts
