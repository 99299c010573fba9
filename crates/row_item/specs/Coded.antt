-- The items and states of document 01's rows (row_format, Row.antt) as the code holds them. Definitions only; their law
-- is in Coded/Laws.antt. Assumes nothing.
use Rattle.std.specs.Prelude.{ℕ, ◌≡◌, true, false, cond}
use Rattle.row_format.specs.Table.{signed_difference}
use Rattle.row_format.specs.Row as row
use Rattle.row_item.specs.declared.Item.{Item}
use Rattle.row_item.specs.declared.Item.TheVariants.{Difference, BadPixel, BadBias, Escape}
use Rattle.row_item.specs.declared.Progress.{Progress}
pub mod Laws

-- a difference that is counted k from -4093 is the i32 k - 4093
abbrev pub coded : row.Item → Item
coded (row.difference k) = Difference (signed_difference k)
coded row.bad_pixel = BadPixel
coded row.bad_bias = BadBias
coded (row.escape h) = Escape h

abbrev pub progress : row.State → Progress
progress row.fresh = record { begun = false; previous = 0 }
progress (row.past h) = record { begun = true; previous = h }

-- `progress` turned round: where no pixel has become previous, the number held beside it counts for nothing
abbrev pub row_state : Progress → row.State
row_state p = cond p.begun (row.past p.previous) row.fresh

-- r is what p has come to after an item and its pixel
pub record Followed (p : Progress) (i : Item) (pixel : ℕ) (r : Progress) : Type 0 where
  pub next : (s : row.State) (j : row.Item) → p ≡ progress s → i ≡ coded j → pixel ≡ row.pixel_of s j → r ≡ progress (row.after s j)
