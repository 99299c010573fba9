-- The rows of a picture, from the top. Assumes nothing.
use Prim.Native.Nat.{ℕ, zero, suc, ◌+◌, ◌<◌}
use Rattle.std.proofs.Common.{add-zero, zero-add, arith, sym, ◌∙◌}
use Rattle.std.specs.Prelude.{◌≡◌, refl, length, get_or}
use Rattle.std.proofs.Math.Path.{ap}
use mathlib.Core.List.{List, []}
use Rattle.sheet_format.specs.Sheet.{stored_rows, sheet_read}
use Rattle.sheet_picture.specs.Extent.{sheet_extent}
use Rattle.sheet_picture.specs.Grid.{Look, picture_row, picture_height, rows_from, picture_rows}

length-rows : (f : ℕ → List ℕ) (y n : ℕ) → length (rows_from f y n) ≡ n
unfolding rows_from
length-rows f y zero = refl
length-rows f y (suc n) = ap suc (length-rows f (y + 1) n)

get_d_rows : (f : ℕ → List ℕ) (y n i : ℕ) → i < n → get_or (rows_from f y n) i [] ≡ f (y + i)
unfolding rows_from
get_d_rows f y zero i h = absurd (omega arith)
get_d_rows f y (suc n) zero h = ap f (sym (add-zero y))
get_d_rows f y (suc n) (suc i) h =
    let place : y + 1 + i ≡ y + suc i = omega arith in
    get_d_rows f (y + 1) n i (omega arith) ∙ ap f place

module _ (l : Look) (s : List ℕ) where
  pub rows_all : length (picture_rows l s) ≡ picture_height l (sheet_extent s)
  unfolding picture_rows
  rows_all = length-rows (picture_row l (sheet_extent s) (stored_rows (sheet_read s).records)) 0 (picture_height l (sheet_extent s))

  pub row_at : (y : ℕ) → y < picture_height l (sheet_extent s)
      → get_or (picture_rows l s) y [] ≡ picture_row l (sheet_extent s) (stored_rows (sheet_read s).records) y
  unfolding picture_rows
  row_at y h =
      let f : ℕ → List ℕ = picture_row l (sheet_extent s) (stored_rows (sheet_read s).records) in
      get_d_rows f 0 (picture_height l (sheet_extent s)) y h ∙ ap f (zero-add y)
