-- One pixel of a row. Definitions only. Assumes nothing.
use Rattle.std.specs.Prelude.{ℕ, ◌≤◌, ◌≡◌, List}
use Rattle.row_format.specs.Row.{after, item_for, item_bits}
use Rattle.row_item.specs.declared.Progress.{Progress}
use Rattle.row_item.specs.Coded.{progress, row_state}
use Rattle.row_packer.specs.Field.{Holds}
use Rattle.row_packer.specs.declared.encode.Encoded.{Encoded}

-- p is a state's, and what is previous is a height
pub record Sound (p : Progress) : Type 0 where
  pub is : p ≡ progress (row_state p)
  pub height : p.previous ≤ 4093

-- r has the bits of the pixel's item, and the state after it
pub record Encodes (t : List ℕ) (p : Progress) (pixel : ℕ) (r : Encoded) : Type 0 where
  pub bits : Holds (item_bits t (item_for t (row_state p) pixel)) r.field
  pub next : row_state r.next ≡ after (row_state p) (item_for t (row_state p) pixel)
  pub sound : Sound r.next
