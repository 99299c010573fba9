-- Document 01: what the sheet lister prints of a whole sheet. Definitions only; their laws are in Listing/Laws.antt. Assumes
-- nothing.
use Rattle.std.specs.Prelude.{ℕ, List, [], ◌∷◌, ◌++◌, length}
use Rattle.sheet_format.specs.Sheet.{SheetRecord, SheetRead, sheet_read, row_numbers}
use Rattle.sheet_listing.specs.Line.{record_line, last_line}
pub mod Laws
pub mod Cases

-- a line for each accepted record
unfoldable pub record_lines : List SheetRecord → List ℕ
record_lines [] = []
record_lines (x ∷ xs) = record_line x ++ record_lines xs

-- then the last line: "kinds 2 and 3 count as rows", "records counted from 0"
abbrev pub last_of : SheetRead → List ℕ
last_of s = last_line s.number s.place (length s.records) (length (row_numbers s.records))

unfoldable pub listing : List ℕ → List ℕ
listing bytes = record_lines (sheet_read bytes).records ++ last_of (sheet_read bytes)
