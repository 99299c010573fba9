-- The laws of what the calls take. Assumes nothing.
use Prim.Native.Nat.{ℕ, zero, suc, ◌+◌, ◌*◌, ◌/◌, ◌≤◌, ◌<◌, max}
use Rattle.std.proofs.Common.{mul-le-mul, add-zero, arith, ◌∙◌, get_or-set_same, get_or-set_other, below_more, lt-ltb, le-ltb}
use Rattle.std.specs.Prelude.{◌≡◌, refl, List, length, get_or, set, replicate}
use Rattle.std.proofs.Math.Path.{ap}
use Rattle.std.proofs.Math.ListN.{length-append}
use Rattle.bitstream.specs.Bits.{halves_of}
use Rattle.text.specs.Put.{Put}
use Rattle.text.specs.Put.Laws.{put-put}
use Rattle.sheet_format.specs.Sheet.{StoredRow, Heights, heights_of}
use Rattle.sheet_picture.specs.declared.View.{View}
use Rattle.sheet_picture.specs.Colour.{Range, missing, background, height_index}
use Rattle.sheet_picture.specs.Grid.{gap, widened, count_samples, beside_times, left_row, right_row, beside_width, beside_height}
use Rattle.sheet_picture.specs.Grid.{picture_row, picture_width, picture_height}
use Rattle.sheet_picture.specs.Grid.Laws.{widened_same, length-left, length-beside, length-counts, map_whole, row-shown}
use Rattle.sheet_picture.specs.View.{beside_of, look_of, extent_of, ViewFits, IndexedTo}

-- ---- products that fit
pub wide-few : (w k : ℕ) → w ≤ 4096 → k ≤ 15 → w * k ≤ 61440
wide-few w k h g = mul-le-mul h g

pub tall-few : (n k : ℕ) → n ≤ 65552 → k ≤ 15 → n * k ≤ 983280
tall-few n k h g = mul-le-mul h g

-- ---- a table of indices, one more each turn
pub indexed-none : (g : Range) (t : List ℕ) → IndexedTo g t 0
indexed-none g t = record { index = λ h low. absurd (omega arith) }

pub indexed-more : {g : Range} {t : List ℕ} {n x : ℕ} → n < length t → x ≡ height_index g n → IndexedTo g t n
    → IndexedTo g (set t n x) (n + 1)
indexed-more {g} {t} {n} {x} inside is before =
    record { index = below_more (λ (h : ℕ). get_or (set t n x) h 0 ≡ height_index g h) n other (get_or-set_same t n x 0 inside ∙ is) }
  where
    other : (h : ℕ) → h < n → get_or (set t n x) h 0 ≡ height_index g h
    other h low = get_or-set_other t n h x 0 (λ e. absurd (omega (arith, e))) ∙ before.index h low

-- ---- by what stands to the right
width-by : (n : ℕ) (b : List ℕ) (f : ℕ) → (n ≡ 0 → ⊥) → beside_width (beside_of n b) f ≡ gap + 128 * f
width-by zero b f some = absurd (some refl)
width-by (suc zero) b f some = refl
width-by (suc (suc n)) b f some = refl

height-by : (n : ℕ) (b : List ℕ) (f : ℕ) → (n ≡ 0 → ⊥) → beside_height (beside_of n b) f ≡ 128 * f
height-by zero b f some = absurd (some refl)
height-by (suc zero) b f some = refl
height-by (suc (suc n)) b f some = refl

module _ (v : View) (b : List ℕ) where
  pub width-none : v.beside ≡ 0 → picture_width (look_of v b) (extent_of v) ≡ v.width * v.times
  unfolding picture_width
  width-none e = rw e (add-zero (v.width * v.times))

  pub height-none : v.beside ≡ 0 → picture_height (look_of v b) (extent_of v) ≡ v.height * v.times
  unfolding picture_height
  height-none e = rw e (omega arith)

  module _ (some : v.beside ≡ 0 → ⊥) where
    pub width_some : picture_width (look_of v b) (extent_of v) ≡ v.width * v.times + (gap + 128 * beside_times (v.height * v.times))
    unfolding picture_width
    width_some = ap (v.width * v.times +◌) (width-by v.beside b (beside_times (v.height * v.times)) some)

    pub height-some : picture_height (look_of v b) (extent_of v) ≡ max (v.height * v.times) (128 * beside_times (v.height * v.times))
    unfolding picture_height
    height-some = ap (max (v.height * v.times)) (height-by v.beside b (beside_times (v.height * v.times)) some)

-- ---- what is right, put after the gap
module _ (b : List ℕ) (f y : ℕ) {m m' m'' : List ℕ} {at r r' : ℕ} (room : at ≤ length m)
    (first : Put m at (replicate gap background) r m') where
  -- a row of the map, or of one that is refused
  pub right-map : (n : ℕ) → (n ≡ 0 → ⊥) → y < 128 * f
      → (n ≡ 1 → Put m' r (widened f (count_samples (halves_of b) (y / f))) r' m'')
      → ((n ≡ 1 → ⊥) → Put m' r (replicate (128 * f) missing) r' m'')
      → Put m at (right_row (beside_of n b) f y) r' m''
  right-map zero some h one other = absurd (some refl)
  right-map (suc zero) some h one other = rw (lt-ltb y (128 * f) h) (put-put room first (one refl))
  right-map (suc (suc n)) some h one other =
      rw (lt-ltb y (128 * f) h, widened_same f 128 missing) (put-put room first (other (λ e. omega (arith, e))))

  -- below it
  pub right-below : (n : ℕ) → (n ≡ 0 → ⊥) → 128 * f ≤ y → Put m' r (replicate (128 * f) background) r' m''
      → Put m at (right_row (beside_of n b) f y) r' m''
  right-below zero some h p = absurd (some refl)
  right-below (suc zero) some h p = rw (le-ltb y (128 * f) h) (put-put room first p)
  right-below (suc (suc n)) some h p = rw (le-ltb y (128 * f) h) (put-put room first p)

-- ---- how long a row is
length-right : (n : ℕ) (b : List ℕ) (f y : ℕ) → 1 ≤ f → (n ≡ 1 → length b ≡ 32768)
    → length (right_row (beside_of n b) f y) ≡ beside_width (beside_of n b) f
length-right zero b f y some whole = refl
length-right (suc zero) b f y some whole =
    length-beside f y (count_samples (halves_of b) (y / f))
    (λ h. length-counts (halves_of b) (y / f) (map_whole b (whole refl)) (row-shown y f some h))
length-right (suc (suc n)) b f y some whole = length-beside f y (replicate 128 missing) (λ h. refl)

width-most : (n : ℕ) (b : List ℕ) (f : ℕ) → f ≤ 31 → beside_width (beside_of n b) f ≤ 3976
width-most zero b f h = omega arith
width-most (suc zero) b f h = omega arith
width-most (suc (suc n)) b f h = omega arith

module _ {v : View} {b : List ℕ} (fits : ViewFits v b) (y : ℕ) where
  pub right-most : length (right_row (beside_of v.beside b) (beside_times (v.height * v.times)) y) ≤ 3976
  right-most =
      let f : ℕ = beside_times (v.height * v.times) in
      omega (arith, length-right v.beside b f y (omega arith) fits.map, width-most v.beside b f (omega arith))

  -- every row of the picture has its width
  pub length-row : (ys : List StoredRow) → length (picture_row (look_of v b) (extent_of v) ys y) ≡ picture_width (look_of v b) (extent_of v)
  unfolding picture_row picture_width
  length-row ys =
      let f : ℕ = beside_times (v.height * v.times) in
      let hs : Heights = heights_of (y / v.times) ys in
      length-append (left_row (look_of v b) (extent_of v) hs y) (right_row (beside_of v.beside b) f y)
      ∙ rw (length-left (look_of v b) (extent_of v) hs y, length-right v.beside b f y (omega arith) fits.map)
