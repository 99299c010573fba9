-- The bits of an item, as a number and its length. Definitions only. Assumes nothing.
use Rattle.std.specs.Prelude.{ℕ, ◌+◌, ◌^◌, ◌≤◌, ◌<◌, ◌≡◌, List, pos, nat_abs, ◌+ℤ◌}
use Prim.{Unit}
use Rattle.bitstream.specs.Bits.{digits}
use Rattle.row_format.specs.Table.{low_limit, table_size}
use Rattle.row_format.specs.Row as row
use Rattle.row_item.specs.declared.Item.{Item}
use Rattle.row_item.specs.declared.Item.TheVariants.{Difference, BadPixel, BadBias, Escape}
use Rattle.row_item.specs.Coded.{coded}
use Rattle.row_packer.specs.declared.field.Field.{Field}

-- r holds these bits
pub record Holds (b : List ℕ) (r : Field) : Type 0 where
  pub bits : digits r.len r.bits ≡ b
  pub above : r.bits < 2 ^ r.len
  pub most : r.len ≤ 27

-- the item that the code holds: `coded` turned round
abbrev pub plain : Item → row.Item
plain (Difference z) = row.difference (nat_abs (z +ℤ pos 4093))
plain BadPixel = row.bad_pixel
plain BadBias = row.bad_bias
plain (Escape h) = row.escape h

-- an item that can be written under a table: a difference that the table has, or a height of 12 bits
abbrev pub WritableItem : List ℕ → row.Item → Type 0
WritableItem t (row.difference k) = (low_limit t ≤ k) × (k < low_limit t + table_size t)
WritableItem t row.bad_pixel = Unit
WritableItem t row.bad_bias = Unit
WritableItem t (row.escape h) = h < 4096

pub record Codable (t : List ℕ) (i : Item) : Type 0 where
  pub is : i ≡ coded (plain i)
  pub fits : WritableItem t (plain i)
