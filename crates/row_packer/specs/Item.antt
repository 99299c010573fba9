-- The item that a pixel gets, as the code holds it. Definitions only. Assumes nothing.
use Rattle.std.specs.Prelude.{ℕ, ◌-◌, ◌≤◌, ◌≡◌, List, ltb}
use Rattle.row_format.specs.Table.{low_limit}
use Rattle.row_format.specs.Row.{State, difference_to, by_difference, item_for}
use Rattle.row_item.specs.declared.Item.{Item}
use Rattle.row_item.specs.declared.Progress.{Progress}
use Rattle.row_item.specs.Coded.{coded, progress}
use Rattle.row_packer.specs.Header.{HeaderOf}
use Rattle.row_packer.specs.declared.header.Header.{Header}

-- u is how many of the table's differences, from its lowest on, a height may be written by: under every table with this header and
-- in the state that the row has come to, one that is not below them is written by its difference exactly where it is among those
pub record Usable (h : Header) (p : Progress) (u : ℕ) : Type 0 where
  pub by : (t : List ℕ) (s : State) (pixel : ℕ) → HeaderOf t h → p ≡ progress s → low_limit t ≤ difference_to s pixel
      → by_difference t s pixel ≡ ltb (difference_to s pixel - low_limit t) u

-- r is the papers' item for a pixel, under every table with this header and in the state that the row has come to
pub record Chosen (h : Header) (p : Progress) (pixel : ℕ) (r : Item) : Type 0 where
  pub item : (t : List ℕ) (s : State) → HeaderOf t h → p ≡ progress s → r ≡ coded (item_for t s pixel)
