-- What is seen of a bit stream from a place on. Definitions only. Assumes nothing.
use Rattle.std.specs.Prelude.{ℕ, min, ◌≡◌, List, length, take}
use Rattle.bitstream.specs.Bits.{num_of, Below}
use Rattle.row_unpacker.specs.declared.view.View.{View}

-- v is what is seen of the bits r
pub record Seen (r : List ℕ) (v : View) : Type 0 where
  pub bits : Below 2 r
  pub window : v.window ≡ num_of (take 32 r)
  pub left : v.left ≡ min 64 (length r)
