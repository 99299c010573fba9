-- The law of states as the code holds them. Assumes nothing.
use Rattle.std.specs.Prelude.{◌≡◌, refl}
use Rattle.row_format.specs.Row as row
use Rattle.row_item.specs.Coded.{progress, row_state}

pub row_state-progress : (s : row.State) → row_state (progress s) ≡ s
row_state-progress row.fresh = refl
row_state-progress (row.past h) = refl
