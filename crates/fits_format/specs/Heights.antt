-- Rows of heights as the records of a sheet, for whatever is turned into one: the table's record comes first, then a packed row for each
-- row of heights, under numbers that rise by one. tb is the table's bytes. Definitions only; their laws are in Heights/. Assumes nothing.
use Rattle.std.specs.Prelude.{ℕ, suc, ◌≤◌, ◌≡◌, false, List, [], ◌∷◌, ◌++◌, length, ltb}
use Rattle.row_format.specs.Lists.{any}
use Rattle.row_format.specs.Row.{pixel_bytes}
use Rattle.sheet_format.specs.Context.{Context, no_heading, new_sheet}
use Rattle.sheet_format.specs.Writing.{record_for}
use Rattle.sheet_format.specs.Sheet.{StoredRow}
pub mod Sheet
pub mod Stored
pub mod Room

unfoldable pub table_bytes : List ℕ → List ℕ
table_bytes tb = record_for 1 no_heading new_sheet tb

-- what the sheet holds before row r: the table, and the rows before
abbrev pub under_table : List ℕ → ℕ → Context
under_table tb r = record { tables = tb ∷ []; least = r }

unfoldable pub heights_record : List ℕ → ℕ → List ℕ → List ℕ
heights_record tb r hs = record_for 2 (record { row = r }) (under_table tb r) (pixel_bytes hs)

-- rows one after another, their numbers from r on
unfoldable pub heights_records : List ℕ → ℕ → List (List ℕ) → List ℕ
heights_records tb r [] = []
heights_records tb r (l ∷ ls) = heights_record tb r l ++ heights_records tb (suc r) ls

-- and as they are stored
unfoldable pub numbered : ℕ → List (List ℕ) → List StoredRow
numbered r [] = []
numbered r (l ∷ ls) = record { number = r; heights = l } ∷ numbered (suc r) ls

-- rows that a sheet takes: at most 4096 heights, none above 4095
pub record LineRight (l : List ℕ) : Type 0 where
  pub few : length l ≤ 4096
  pub low : any (ltb 4095) l ≡ false

abbrev pub LinesRight : List (List ℕ) → Type 0
LinesRight [] = Unit {0}
LinesRight (l ∷ ls) = LineRight l × LinesRight ls
