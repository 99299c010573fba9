-- How far the rows of a sheet reach. Assumes nothing.
use Prim.Native.Nat.{ℕ, suc, ◌+◌, ◌≤◌, ◌<◌}
use Rattle.std.proofs.Common.{arith, ap, ⊎_elim, eq-eqb}
use Rattle.std.specs.Prelude.{◌≡◌, refl, Bool, cond, length, eqb}
use Rattle.std.proofs.Math.Bool.{true, false}
use mathlib.Core.List.Memᴰ
use mathlib.Core.List.{List, [], ◌∷◌, ◌++◌, Memᴰ}
use Rattle.std.proofs.Math.ListN.{drop}
use Rattle.sheet_format.specs.Sheet.{StoredRow, stored_rows, sheet_read}
use Rattle.sheet_format.proofs.Theorems.Rising.{Rising, sheet_read-rows}
use Rattle.sheet_format.specs.Size.{rows_width, rows_height}
use Rattle.sheet_format.specs.Size.Laws.{height-more}
use Rattle.sheet_picture.specs.Extent.{Extent, rows_claimed, records_length}
use Rattle.sheet_picture.specs.Extent.{whole_extent, broken_extent, sheet_extent}

-- ---- of rows
width-holds : (y : StoredRow) (ys : List StoredRow) → Memᴰ y ys → length y.heights ≤ rows_width ys
unfolding rows_width
width-holds y [] m = absurd (Memᴰ.not-nil m)
width-holds y (z ∷ ys) m =
    ⊎_elim (λ e. omega (arith, ap (λ (x : StoredRow). length x.heights) e)) (λ rest. omega (arith, width-holds y ys rest))
    (Memᴰ.cases_cons m)

height-holds : (y : StoredRow) (ys : List StoredRow) → Memᴰ y ys → y.number < rows_height ys
unfolding rows_height
height-holds y [] m = absurd (Memᴰ.not-nil m)
height-holds y (z ∷ ys) m =
    ⊎_elim (λ e. omega (arith, ap (λ (x : StoredRow). x.number) e)) (λ rest. omega (arith, height-holds y ys rest))
    (Memᴰ.cases_cons m)

-- no more than is needed
width-least : (ys : List StoredRow) (n : ℕ) → ((y : StoredRow) → Memᴰ y ys → length y.heights ≤ n) → rows_width ys ≤ n
unfolding rows_width
width-least [] n all = omega arith
width-least (z ∷ ys) n all = omega (arith, all z (Memᴰ.head refl), width-least ys n (λ y m. all y (Memᴰ.tail m)))

-- where numbers rise the last is the largest
last-least : (low : ℕ) (ys : List StoredRow) (y : StoredRow) → Rising low (ys ++ (y ∷ [])) → low ≤ y.number
last-least low [] y rising = rising.0
last-least low (z ∷ ys) y rising =
    let first = rising.0 in omega (arith, last-least (suc z.number) ys y rising.1)

last-above : (low : ℕ) (ys : List StoredRow) (y : StoredRow) → Rising low (ys ++ (y ∷ [])) → rows_height ys ≤ y.number
unfolding rows_height
last-above low [] y rising = omega arith
last-above low (z ∷ ys) y rising =
    omega (arith, last-least (suc z.number) ys y rising.1, last-above (suc z.number) ys y rising.1)

-- ---- of a sheet
module _ (s : List ℕ) where
  abbrev rows : List StoredRow
  rows = stored_rows (sheet_read s).records

  extent-whole : (sheet_read s).number ≡ 0 → sheet_extent s ≡ whole_extent rows
  unfolding sheet_extent
  extent-whole e = rw (eq-eqb (sheet_read s).number 0 e)

  -- accepted or not
  extent-either : (P : Extent → Type 0) → P (whole_extent rows) → ((n : ℕ) → P (broken_extent rows n)) → P (sheet_extent s)
  unfolding sheet_extent
  extent-either P whole broken =
      let rest : List ℕ = drop (records_length (sheet_read s).records) s in
      by (eqb (sheet_read s).number 0) (rows_claimed (length rest) rest)
    where
      by : (t : Bool) (n : ℕ) → P (cond t (whole_extent rows) (broken_extent rows n))
      by true n = whole
      by false n = broken n

  pub row_within : (y : StoredRow) → Memᴰ y rows → (y.number < (sheet_extent s).height) × (length y.heights ≤ (sheet_extent s).width)
  row_within y m =
      let tall = height-holds y rows m in
      let wide = width-holds y rows m in
      extent-either (λ (e : Extent). (y.number < e.height) × (length y.heights ≤ e.width)) (omega arith, omega arith)
      (λ n. (omega arith, omega arith))

  module _ (accepted : (sheet_read s).number ≡ 0) where
    pub extent-narrow : (n : ℕ) → 1 ≤ n → ((y : StoredRow) → Memᴰ y rows → length y.heights ≤ n) → (sheet_extent s).width ≤ n
    extent-narrow n some all = rw (extent-whole accepted) (omega (arith, width-least rows n all))

    pub extent-last : (ys : List StoredRow) (y : StoredRow) → rows ≡ ys ++ (y ∷ []) → (sheet_extent s).height ≡ y.number + 1
    extent-last ys y e =
        let rising : Rising 0 (ys ++ (y ∷ [])) = rw e at (sheet_read-rows s) in
        rw (extent-whole accepted, e, height-more ys y) (omega (arith, last-above 0 ys y rising))

    pub extent-none : rows ≡ [] → sheet_extent s ≡ record { width = 1; height = 1 }
    unfolding rows_width rows_height
    extent-none e = rw (extent-whole accepted, e)
