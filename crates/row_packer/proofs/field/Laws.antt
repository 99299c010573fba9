-- The laws of the bits of an item: the ways out of `field_of` and of its parts. Assumes nothing.
use Prim.Native.Nat.{ℕ, ◌+◌, ◌-◌, ◌*◌, ◌/◌, ◌%◌, ◌^◌, ◌≤◌, ◌<◌}
use native.Mathlib.Omega.{arith}
use mathlib.Core.Path.{◌≡◌, refl, sym, ap, ◌∙◌, subst}
use mathlib.Core.List.{List, ◌++◌}
use lib.ListN.{length, get_or}
use lib.IntN.{ℤ, pos, nat_abs, ◌+ℤ◌}
use mir.Val.{SFits, to_z, of_z}
use mir.Syntax.{w32}
use Rattle.bitstream.specs.Bits.{digits}
use Rattle.bitstream.specs.Bits.Laws.{digits-join, above-lt, length_digits}
use Rattle.row_format.specs.Table.{low_limit, table_size, codeword, codeword_at, signed_difference, Accepted}
use Rattle.row_format.specs.Table.Laws.{length-codeword_at}
use Rattle.row_format.specs.Reading.{Fits}
use Rattle.row_format.specs.Row as row
use Rattle.row_format.proofs.Theorems.Items.{entry}
use Rattle.code_table.specs.SignedLaws.{DifferenceCount, signed-fits, signed_back, sum_fits, sum-count}
use Rattle.row_item.specs.declared.Item.{Item}
use Rattle.row_item.specs.declared.Item.TheVariants.{Difference, BadPixel, BadBias, Escape}
use Rattle.row_item.specs.Coded.{coded}
use Rattle.row_packer.specs.Field.{Holds, plain, WritableItem, Codable}
use Rattle.row_packer.specs.declared.field.Field.{Field}

-- ---- a codeword
pub holds-codeword : {t : List ℕ} (ok : Accepted t) (j : ℕ) {w : ℕ} → j < 3 + table_size t → w ≡ get_or t (3 + j) 0
    → Holds (codeword_at t j) (record { bits = w / 32; len = w % 32 })
unfolding codeword_at codeword
holds-codeword ok j h e = rw e (record { bits = refl; above = (ok.word j h).above; most = (ok.word j h).most })

pub escape-length : {t : List ℕ} {r : Field} → Accepted t → Holds (codeword_at t 0) r → r.len ≤ 15
escape-length {t} {r} ok h =
    let size : r.len ≡ length (codeword_at t 0) = sym (length_digits r.len r.bits) ∙ ap length h.bits in
    omega (arith, ok.escape-most, length-codeword_at t 0)

-- ---- the escape codeword b of n bits and a height in 12 bits more
module _ (b n h : ℕ) (few : n ≤ 15) (above : b < 2 ^ n) (twelve : h < 4096) where
  pub holds-height : {r : ℕ} → r ≡ h * 2 ^ n + b → Holds (digits n b ++ digits 12 h) (record { bits = r; len = n + 12 })
  holds-height e = rw e (record { bits = sym (digits-join n 12 h b above); above = above-lt n 12 h b above twelve; most = omega arith })

-- ---- an item as the code holds it, turned round
pub plain-coded : (j : row.Item) → plain (coded j) ≡ j
plain-coded (row.difference k) = ap (λ (z : ℤ). row.difference (nat_abs z)) (signed_back k)
plain-coded row.bad_pixel = refl
plain-coded row.bad_bias = refl
plain-coded (row.escape h) = refl

-- what may stand in a row can be written
writable : (t : List ℕ) (s : row.State) (j : row.Item) → Fits t s j → WritableItem t j
writable t s (row.difference k) f = let at = entry t k f.0 in (at.low, omega arith)
writable t s row.bad_pixel f = tt
writable t s row.bad_bias f = tt
writable t s (row.escape h) f = omega arith

pub codable : (t : List ℕ) (s : row.State) (j : row.Item) {i : Item} → i ≡ coded j → Fits t s j → Codable t i
codable t s j e f =
    rw e (record { is = ap coded (sym (plain-coded j)); fits = subst (WritableItem t) (sym (plain-coded j)) (writable t s j f) })

-- ---- a difference that the table has
number : Item → ℤ
number (Difference z) = z
number BadPixel = pos 0
number BadBias = pos 0
number (Escape h) = pos 0

module _ {t : List ℕ} (ok : Accepted t) {i : Item} {z : ℤ} (e : i ≡ Difference z) (c : Codable t i) where
  same : Codable t (Difference z)
  same = subst (Codable t) e c

  -- its count from -4093
  abbrev count : ℕ
  count = nat_abs (z +ℤ pos 4093)

  pub count_low : low_limit t ≤ count
  count_low = same.fits.0

  pub count-high : count < low_limit t + table_size t
  count-high = same.fits.1

  count_most : count ≤ 8186
  count_most = omega (arith, ok.sum-most, count-high)

  z-is : z ≡ signed_difference count
  unfolding number
  z-is = ap number same.is

  z-fits : SFits w32 z
  z-fits = rw z-is (signed-fits count count_most)

  abbrev counted : DifferenceCount z
  counted = record { count = count; most = count_most; is = z-is }

  -- the count as the code computes it
  pub count_fits : SFits w32 (to_z w32 (of_z w32 z) +ℤ pos 4093)
  count_fits = sum_fits z z-fits counted

  pub count-is : to_z w32 (of_z w32 (to_z w32 (of_z w32 z) +ℤ pos 4093)) ≡ pos count
  count-is = sum-count z z-fits counted

  pub holds-difference : {r : Field} {low : ℕ} → low ≡ low_limit t
      → Holds (codeword_at t (3 + (nat_abs (to_z w32 (of_z w32 (to_z w32 (of_z w32 z) +ℤ pos 4093))) - low))) r
      → Holds (row.item_bits t (plain i)) r
  holds-difference {r} l h = rw (e, ← l) (rw count-is at h)

-- ---- an escape
module _ {t : List ℕ} {i : Item} {h : ℕ} (e : i ≡ Escape h) (c : Codable t i) where
  pub escape-twelve : h < 4096
  escape-twelve = (subst (Codable t) e c).fits

  pub holds-escape : {q r : Field} → Holds (codeword_at t 0) q → Holds (digits q.len q.bits ++ digits 12 h) r
      → Holds (row.item_bits t (plain i)) r
  holds-escape first all = rw (e, ← first.bits) all
