-- How large the picture of a sheet is: as wide as its longest row, and a row stands at its number. Definitions only; their laws are
-- in Extent/. Assumes nothing.
use Rattle.std.specs.Prelude.{ℕ, zero, suc, ◌+◌, max, Bool, cond, ◌||◌, List, [], ◌∷◌, length, drop, ltb, eqb}
use Rattle.sheet_format.specs.Fields.{two_at}
use Rattle.sheet_format.specs.Record.{length_field, kind_field, length_number}
use Rattle.sheet_format.specs.Sheet.{SheetRecord, SheetRead, StoredRow, stored_rows, sheet_read}
use Rattle.sheet_format.specs.Size.{rows_width, rows_height}
pub mod Laws

-- in heights: pixels of a row, and rows
pub record Extent : Type 0 where
  pub width : ℕ
  pub height : ℕ

-- ---- of what is behind a fault: a record that is there by its length, and is a row by its kind, says where its row would stand;
-- one that is too short for a row's number says nothing
abbrev pub is_row_kind : ℕ → Bool
is_row_kind k = eqb k 2 || eqb k 3

unfoldable pub row_claimed : List ℕ → ℕ
row_claimed r = cond (ltb (length_field r) 4) 0 (cond (is_row_kind (kind_field r)) (two_at 6 r + 1) 0)

-- over such records, one after another; each has bytes, so that n bounds them
unfoldable pub rows_claimed : ℕ → List ℕ → ℕ
rows_claimed zero r = 0
rows_claimed (suc n) r =
    cond (eqb (length_number r) 0) (max (row_claimed r) (rows_claimed n (drop (4 + length_field r) r))) 0

-- ---- of a sheet
-- the bytes of the records, and so the place of the fault
unfoldable pub records_length : List SheetRecord → ℕ
records_length [] = 0
records_length (x ∷ xs) = length x.bytes + records_length xs

-- a sheet that is accepted: its rows, and a height at least
abbrev pub whole_extent : List StoredRow → Extent
whole_extent ys = record { width = max 1 (rows_width ys); height = max 1 (rows_height ys) }

-- one that is refused: its rows, below them at least 16 rows that are missing, and all that the records behind the fault claim
abbrev pub broken_extent : List StoredRow → ℕ → Extent
broken_extent ys claimed = record { width = max 16 (rows_width ys); height = max (rows_height ys + 16) claimed }

abbrev pub extent_by : List ℕ → SheetRead → Extent
extent_by s x =
    let ys : List StoredRow = stored_rows x.records in
    let rest : List ℕ = drop (records_length x.records) s in
    cond (eqb x.number 0) (whole_extent ys) (broken_extent ys (rows_claimed (length rest) rest))

unfoldable pub sheet_extent : List ℕ → Extent
sheet_extent s = extent_by s (sheet_read s)
