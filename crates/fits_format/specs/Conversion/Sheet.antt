-- That the bytes of the plain table's record and of rows' records are a sheet, and what it stores. Assumes nothing.
use Prim.Native.Nat.{ℕ, zero, suc, ◌+◌, ◌≤◌, ◌<◌}
use Rattle.std.proofs.Common.{add-zero, zero-add, not-suc-le-zero, le_of_suc-le-suc, sym, ◌∙◌}
use native.Mathlib.Omega.{arith}
use Rattle.std.specs.Prelude.{◌≡◌, false, List, [], ◌∷◌, ◌++◌, length, get_or, ltb}
use Rattle.std.proofs.Math.Path.{refl, ap}
use Rattle.bitstream.specs.Bits.{flat, Below}
use Rattle.bitstream.specs.Bits.Laws.{below-cut, below-flat}
use Rattle.row_format.specs.Lists.{any}
use Rattle.row_format.specs.Plain.{plain_table, plain_bytes}
use Rattle.code_table.specs.Plain.Laws.{plain-accepted}
use Rattle.sheet_format.specs.Sheet.{sheet_read, stored_rows, heights_of, present}
use Rattle.fits_format.specs.Header.{plain_table_record}
use Rattle.fits_format.specs.Heights.{table_bytes, heights_record, heights_records, numbered, LineRight, LinesRight}
use Rattle.fits_format.specs.Heights.Sheet.{sheet-accepted, sheet-rows}
use Rattle.fits_format.specs.Heights.Stored.{length-numbered, numbered-stand, numbered-others}
use Rattle.fits_format.specs.Image.{big_endian, signed_pixels, out_of_range, row_record}
use Rattle.fits_format.specs.Image.Laws.{length-big_endian, out_of_range-any, heights-same, pixels-same}
use Rattle.fits_format.specs.Conversion.{row_at, row_record_at, in_order, SheetOfImage}

pub below_plain : Below 256 plain_bytes
unfolding plain_bytes
below_plain = below-cut 8 2072 (flat 32 plain_table) (below-flat 32 plain_table)

-- ---- a row
-- a row whose pixels are heights, and which has its place in an image
pub record RowRight (w r : ℕ) (s : List ℕ) : Type 0 where
  pub narrow : w ≤ 4096
  pub low : r ≤ 4095
  pub heights : any out_of_range (signed_pixels w s) ≡ false

module _ (w r : ℕ) (s : List ℕ) (right : RowRight w r s) where
  -- its numbers are its heights
  low-numbers : any (ltb 4095) (big_endian w s) ≡ false
  low-numbers = sym (out_of_range-any (big_endian w s)) ∙ right.heights

  line-right : LineRight (big_endian w s)
  line-right = record { few = omega (arith, length-big_endian w s, right.narrow); low = low-numbers }

  record_same : row_record w r s ≡ heights_record plain_bytes r (big_endian w s)
  unfolding row_record heights_record
  record_same = rw (heights-same (big_endian w s) low-numbers)

-- ---- k rows from row r on
module _ (w : ℕ) (image : List ℕ) where
  unfoldable row_lines : ℕ → ℕ → List (List ℕ)
  row_lines r zero = []
  row_lines r (suc k) = big_endian w (row_at w image r) ∷ row_lines (suc r) k

  length-row_lines : (r k : ℕ) → length (row_lines r k) ≡ k
  unfolding row_lines
  length-row_lines r zero = refl
  length-row_lines r (suc k) = ap suc (length-row_lines (suc r) k)

  row_lines-at : (r k i : ℕ) → i < k → get_or (row_lines r k) i [] ≡ big_endian w (row_at w image (r + i))
  unfolding row_lines
  row_lines-at r zero i h = absurd (not-suc-le-zero h)
  row_lines-at r (suc k) zero h = rw (add-zero r)
  row_lines-at r (suc k) (suc i) h =
      let e : suc r + i ≡ r + suc i = omega arith in
      row_lines-at (suc r) k i (le_of_suc-le-suc h) ∙ rw e

  abbrev AllRight : ℕ → ℕ → Type 0
  AllRight r k = (i : ℕ) → i < k → RowRight w (r + i) (row_at w image (r + i))

  right-first : (r k : ℕ) → AllRight r (suc k) → RowRight w r (row_at w image r)
  right-first r k right = rw (add-zero r) at (right 0 (omega arith))

  right-rest : (r k : ℕ) → AllRight r (suc k) → AllRight (suc r) k
  right-rest r k right i h =
      let e : r + suc i ≡ suc r + i = omega arith in
      rw e at (right (suc i) (omega (arith, h)))

  lines-right : (r k : ℕ) → AllRight r k → LinesRight (row_lines r k)
  unfolding row_lines
  lines-right r zero right = tt
  lines-right r (suc k) right =
      (line-right w r (row_at w image r) (right-first r k right), lines-right (suc r) k (right-rest r k right))

  lines-bytes : (r k : ℕ) → AllRight r k → in_order (row_record_at w image) r k ≡ heights_records plain_bytes r (row_lines r k)
  unfolding row_lines in_order heights_records
  lines-bytes r zero right = refl
  lines-bytes r (suc k) right =
      rw (record_same w r (row_at w image r) (right-first r k right), lines-bytes (suc r) k (right-rest r k right))

-- ---- the sheet
-- rows have numbers to 4095
few-rows : (w : ℕ) (image : List ℕ) (k : ℕ) → ((i : ℕ) → i < k → RowRight w i (row_at w image i)) → k ≤ 65536
few-rows w image zero right = omega arith
few-rows w image (suc k) right = omega (arith, (right k (omega arith)).low)

module _ (w : ℕ) (image : List ℕ) (k : ℕ)
    (right : (i : ℕ) → i < k → RowRight w i (row_at w image i)) where
  all_right : AllRight w image 0 k
  all_right i h = rw (zero-add i) (right i h)

  abbrev lines : List (List ℕ)
  lines = row_lines w image 0 k

  few : length lines ≤ 65536
  few = rw (length-row_lines w image 0 k) (few-rows w image k right)

  abbrev sheet : List ℕ
  sheet = plain_table_record ++ in_order (row_record_at w image) 0 k

  sheet-is : sheet ≡ table_bytes plain_bytes ++ heights_records plain_bytes 0 lines
  unfolding plain_table_record table_bytes
  sheet-is = rw (lines-bytes w image 0 k all_right)

  stored_is : stored_rows (sheet_read sheet).records ≡ numbered 0 lines
  stored_is = rw sheet-is (sheet-rows plain_bytes plain-accepted below_plain lines few (lines-right w image 0 k all_right))

  pub image-sheet : SheetOfImage w image k sheet
  image-sheet = record {
    accepted = rw sheet-is (sheet-accepted plain_bytes plain-accepted below_plain lines few (lines-right w image 0 k all_right));
    rows = ap length stored_is ∙ length-numbered 0 lines ∙ length-row_lines w image 0 k;
    heights = λ i h. (
      big_endian w (row_at w image i),
      ap (heights_of i) stored_is
          ∙ (rw (zero-add i) at (numbered-stand 0 lines i (omega (arith, h, length-row_lines w image 0 k))))
          ∙ ap present (row_lines-at w image 0 k i h ∙ rw (zero-add i)),
      pixels-same (big_endian w (row_at w image i)) (low-numbers w i (row_at w image i) (right i h)),
    );
    others = λ i h. ap (heights_of i) stored_is ∙ numbered-others 0 lines i (omega (arith, h, length-row_lines w image 0 k));
  }
