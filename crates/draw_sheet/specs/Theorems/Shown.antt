-- That the file of a sheet's picture shows it, to a reader of PNG that goes by the standards alone. Assumes nothing.
use Prim.Native.Nat.{ℕ, zero, suc, ◌+◌, ◌≤◌}
use Rattle.std.proofs.Common.{arith, eqb-true}
use Rattle.std.specs.Prelude.{◌≡◌, eqb}
use mathlib.Core.List.{List}
use Rattle.std.proofs.Math.Option.{some}
use Rattle.std.proofs.Math.ListN.{length}
use Rattle.std.proofs.lemmas.Bool.{eqb-false}
use Rattle.row_format.specs.Lists.Laws.{by-test}
use Rattle.sheet_format.specs.Sheet.{StoredRow, stored_rows, sheet_read}
use Rattle.png_format.specs.Png.{png}
use Rattle.png_format.specs.Reading.{picture_in}
use Rattle.png_format.specs.Chunks.{RowsOf}
use Rattle.png_format.proofs.Theorems.{picture-read}
use Rattle.sheet_picture.specs.declared.View.{View}
use Rattle.sheet_picture.specs.Colour.{palette}
use Rattle.sheet_picture.specs.Colour.Laws.{length-colours}
use Rattle.sheet_picture.specs.Extent.{sheet_extent}
use Rattle.sheet_picture.specs.Grid.{picture_row, picture_width, picture_height, rows_from, picture_rows}
use Rattle.sheet_picture.specs.View.{look_of, extent_of, ViewFits}
use Rattle.sheet_picture.specs.View.Laws.{wide-few, tall-few, width-none, width_some, height-none, height-some, length-row}
use Rattle.sheet_picture.specs.Theorems.{picture-rows}

rows-of : (w : ℕ) (f : ℕ → List ℕ) → ((y : ℕ) → length (f y) ≡ w) → (y n : ℕ) → RowsOf w (rows_from f y n)
unfolding rows_from
rows-of w f each y zero = tt
rows-of w f each y (suc n) = (each y, rows-of w f each (y + 1) n)

module _ {v : View} {c : List ℕ} (fits : ViewFits v c) where
  narrow : picture_width (look_of v c) (extent_of v) ≤ 65416
  narrow =
      let left = wide-few v.width v.times fits.wide fits.few in
      by-test (eqb v.beside 0)
      (λ t. rw (width-none v c (eqb-true v.beside 0 t)) (omega (arith, left)))
      (λ t. rw (width_some v c (eqb-false v.beside 0 t)) (omega (arith, left)))

  low : picture_height (look_of v c) (extent_of v) ≤ 983280
  low =
      let left = tall-few v.height v.times fits.tall fits.few in
      by-test (eqb v.beside 0)
      (λ t. rw (height-none v c (eqb-true v.beside 0 t)) (omega (arith, left)))
      (λ t. rw (height-some v c (eqb-false v.beside 0 t)) (omega (arith, left)))

  pub picture-shown : (s : List ℕ) → sheet_extent s ≡ extent_of v
      → let look = look_of v c in
      let w = picture_width look (sheet_extent s) in
      let h = picture_height look (sheet_extent s) in
      picture_in (png w h palette (picture_rows look s))
      ≡ some (record { width = w; height = h; palette = palette; rows = picture_rows look s })
  unfolding picture_rows
  picture-shown s size =
      let look = look_of v c in
      let w : ℕ = picture_width look (extent_of v) in
      let h : ℕ = picture_height look (extent_of v) in
      let ys : List StoredRow = stored_rows (sheet_read s).records in
      let f : ℕ → List ℕ = picture_row look (extent_of v) ys in
      let count : length (rows_from f 0 h) ≡ h = rw size at (picture-rows look s) in
      let colours : length palette ≡ 768 = length-colours 256 0 in
      rw size
      (picture-read w (omega (arith, narrow)) h palette (rows_from f 0 h) (omega (arith, colours)) (omega (arith, low))
      (rows-of w f (λ y. length-row fits y ys) 0 h) count)
