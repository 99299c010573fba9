-- The text of a sheet: a line for each of its rows that is asked for, with the row's number and then its heights, in decimal, one
-- blank between two. Definitions only; their laws are in SheetText/. Assumes nothing.
use Rattle.std.specs.Prelude.{ℕ, ◌≡◌, cond, List, [], ◌∷◌, ◌++◌}
use Rattle.sheet_format.specs.Context.{new_sheet}
use Rattle.sheet_format.specs.Kind.{Payload}
use Rattle.sheet_format.specs.Reading.{record_judged}
use Rattle.sheet_format.specs.Sheet.{SheetRecord, StoredRow, record_holds, row_of, with_row, stored_rows, records, sheet_read}
use Rattle.sheet_format.specs.Stream.{held_of, Carried, context_by, Carries}
use Rattle.map_text.specs.MapText.{row_text}
use Rattle.sheet_to_text.specs.declared.range.RowRange.{RowRange}
use Rattle.sheet_to_text.specs.RowRange.{is_asked}
pub mod Laws
pub mod Theorems

abbrev pub row_line : StoredRow → List ℕ
row_line y = row_text (y.number ∷ y.heights)

-- of a row that is not asked for, nothing
abbrev pub line_asked : RowRange → StoredRow → List ℕ
line_asked r y = cond (is_asked r y.number) (row_line y) []

unfoldable pub row_lines : RowRange → List StoredRow → List ℕ
row_lines r [] = []
row_lines r (y ∷ ys) = line_asked r y ++ row_lines r ys

-- the text of a record that holds s and, where that is a row, the row y: of one that holds none, nothing
abbrev pub held_text : RowRange → Payload → StoredRow → List ℕ
held_text r s y = row_lines r (with_row s y [])

abbrev pub record_text : RowRange → SheetRecord → List ℕ
record_text r x = held_text r (record_holds x) (row_of x)

-- the text of a sheet's bytes, up to its end or to the first record that is refused
abbrev pub sheet_text : RowRange → List ℕ → List ℕ
sheet_text r s = row_lines r (stored_rows (sheet_read s).records)

-- l is what the text of the bytes taken before gains by the record whose bytes are held
pub record NextText (r : RowRange) (held l : List ℕ) : Type 0 where
  pub taken : List ℕ
  pub carried : Carried
  pub carries : Carries taken carried
  pub whole : held ≡ held_of held
  pub accepted : (record_judged (context_by carried) held).number ≡ 0
  pub gains : row_lines r (stored_rows (records new_sheet (taken ++ held)).records)
      ≡ row_lines r (stored_rows (records new_sheet taken).records) ++ l
