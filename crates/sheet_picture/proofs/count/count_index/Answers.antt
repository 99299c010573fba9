-- `sheet_picture::count::count_index` meets its contract: the index is a byte. Assumes nothing.
use mathlib.Core.Path.{refl}
use Rattle.sheet_picture.specs.Colour.{count_index}
use Rattle.sheet_picture.proofs.count.count_index.Goals as goal

pub returns : goal.returns
unfolding count_index
returns c = refl
