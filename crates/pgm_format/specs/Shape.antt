-- The rows of a sheet as the lines of a picture: row n is line n, and all lines are of one length. Where rows are missing or lack heights
-- that is a fault, or they are padded. ys is the rows that a sheet stores. Definitions only; their laws are in Shape/. Assumes nothing.
use Rattle.std.specs.Prelude.{ℕ, zero, suc, cond, List, [], ◌∷◌, ◌++◌, length, take, replicate, eqb}
use Rattle.sheet_format.specs.Sheet.{StoredRow, Heights, absent, present, heights_of}
use Rattle.sheet_format.specs.Size.{rows_width, rows_height}
use Rattle.pgm_format.specs.Samples.{pgm_bytes}
pub mod Laws

-- ---- the first fault
-- row_missing n       row n is not there
-- row_unequal n k w   row n has k heights and row 0 has w
pub data LineFault : Type 0 where
  no_fault : LineFault
  row_missing : ℕ → LineFault
  row_unequal : ℕ → ℕ → ℕ → LineFault

-- of row n, where row 0 has w heights
abbrev pub fault_of : ℕ → ℕ → Heights → LineFault
fault_of w n absent = row_missing n
fault_of w n (present hs) = cond (eqb (length hs) w) no_fault (row_unequal n (length hs) w)

abbrev pub or_fault : LineFault → LineFault → LineFault
or_fault no_fault f = f
or_fault (row_missing n) f = row_missing n
or_fault (row_unequal n k w) f = row_unequal n k w

-- of k rows from row n on
unfoldable pub fault_from : ℕ → ℕ → ℕ → List StoredRow → LineFault
fault_from w n zero ys = no_fault
fault_from w n (suc k) ys = or_fault (fault_of w n (heights_of n ys)) (fault_from w (suc n) k ys)

abbrev pub heights_in : Heights → ℕ
heights_in absent = 0
heights_in (present hs) = length hs

unfoldable pub sheet_fault : List StoredRow → LineFault
sheet_fault ys = fault_from (heights_in (heights_of 0 ys)) 0 (rows_height ys) ys

-- ---- the lines
-- w heights of a row; what it lacks is h
abbrev pub padded_line : ℕ → ℕ → Heights → List ℕ
padded_line h w absent = replicate w h
padded_line h w (present hs) = take w (hs ++ replicate w h)

-- k lines from row n on
unfoldable pub padded_lines : ℕ → ℕ → ℕ → ℕ → List StoredRow → List (List ℕ)
padded_lines h w n zero ys = []
padded_lines h w n (suc k) ys = padded_line h w (heights_of n ys) ∷ padded_lines h w (suc n) k ys

abbrev pub sheet_lines : ℕ → List StoredRow → List (List ℕ)
sheet_lines h ys = padded_lines h (rows_width ys) 0 (rows_height ys) ys

-- ---- the picture
-- whether what is missing is a fault, or is to be h
pub data Padding : Type 0 where
  no_padding : Padding
  pad_with : ℕ → Padding

pub data SheetPgm : Type 0 where
  no_heights : SheetPgm
  at_fault : LineFault → SheetPgm
  pgm_picture : List ℕ → SheetPgm

-- rows that have no fault lack nothing, so that nothing is filled in
abbrev pub unless_fault : LineFault → List ℕ → SheetPgm
unless_fault no_fault b = pgm_picture b
unless_fault (row_missing n) b = at_fault (row_missing n)
unless_fault (row_unequal n k w) b = at_fault (row_unequal n k w)

abbrev pub padded_pgm : Padding → List StoredRow → SheetPgm
padded_pgm no_padding ys = unless_fault (sheet_fault ys) (pgm_bytes (rows_width ys) (sheet_lines 0 ys))
padded_pgm (pad_with h) ys = pgm_picture (pgm_bytes (rows_width ys) (sheet_lines h ys))

-- a sheet without a single height has no picture
unfoldable pub sheet_pgm : Padding → List StoredRow → SheetPgm
sheet_pgm p ys = cond (eqb (rows_width ys) 0) no_heights (padded_pgm p ys)
