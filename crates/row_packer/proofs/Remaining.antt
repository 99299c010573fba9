-- The bits of the pixels that are left of a row, and their laws. Assumes nothing.
use Prim.Native.Nat.{ℕ, ◌+◌, ◌≤◌, ◌<◌}
use mathlib.Core.Path.{◌≡◌, ap, ◌∙◌}
use mathlib.Core.List.{List, [], ◌++◌}
use lib.ListN.{length, drop, get_or, length-append}
use Rattle.bitstream.specs.Bits.{digits}
use Rattle.bitstream.specs.Bits.Laws.{length_digits}
use Rattle.row_format.specs.Row.{fresh, items_for, bits, row_bits}
use Rattle.row_item.specs.declared.Progress.{Progress}
use Rattle.row_item.specs.Coded.{progress, row_state}
use Rattle.row_pixels.specs.Laws.{drop_more, drop-end}
use Rattle.row_packer.specs.Encode.{Encodes}
use Rattle.row_packer.specs.declared.encode.Encoded.{Encoded}

-- the bits of the pixels from pixel i on, when the row has come to p
unfoldable pub remaining : List ℕ → List ℕ → Progress → ℕ → List ℕ
remaining t ps p i = bits t (items_for t (row_state p) (drop i ps))

module _ (t ps : List ℕ) where
  -- at the start all is left
  pub remaining-none : {p : Progress} → p ≡ progress fresh → remaining t ps p 0 ≡ row_bits t ps
  unfolding remaining row_bits
  remaining-none e = rw e

  -- the next pixel's bits, and what is left after it
  module _ {p : Progress} (i : ℕ) {pixel : ℕ} {r : Encoded} (h : i < length ps) (e : pixel ≡ get_or ps i 0) (en : Encodes t p pixel r) where
    pub remaining-more : remaining t ps p i ≡ digits r.field.len r.field.bits ++ remaining t ps r.next (i + 1)
    unfolding remaining items_for bits
    remaining-more = rw (drop_more ps i h e, en.bits.bits, en.next)

    pub length-remaining-more : length (remaining t ps p i) ≡ r.field.len + length (remaining t ps r.next (i + 1))
    length-remaining-more =
        let left = remaining t ps r.next (i + 1) in
        ap length remaining-more
        ∙ length-append (digits r.field.len r.field.bits) left
        ∙ ap (◌+ length left) (length_digits r.field.len r.field.bits)

  -- at the end nothing is left
  pub remaining-all : (p : Progress) (i : ℕ) → i ≤ length ps → length ps ≤ i → remaining t ps p i ≡ []
  unfolding remaining items_for bits
  remaining-all p i h g = rw (drop-end ps i h g)
