-- A scan as a program converts it that holds the header and one row at a time: what it holds of a file, what it may write
-- with that, and how it ends. Each is said by what converting the bytes that were taken comes to (fits_format, `conversion`).
-- Definitions only. Assumes nothing.
use Rattle.std.specs.Prelude.{ℕ, ◌+◌, ◌*◌, ◌≤◌, ◌<◌, ◌≡◌, cond, List, [], ◌++◌, length, take, ltb, Result, Ok, Err}
use Rattle.fits_format.specs.declared.ImageHeader.{ImageHeader}
use Rattle.fits_format.specs.Header.{axis1, axis2, axis_length, header_number, image_start, header_span, image_of}
use Rattle.fits_format.specs.Image.{row_record, image_row_number}
use Rattle.fits_format.specs.Conversion.{Conversion, conversion, row_at}
use Rattle.fits_to_sheet.specs.declared.rows.RowFault.{RowFault}
use Rattle.fits_reader.specs.Verdict.{verdict_line}
pub mod Header
pub mod Rows
pub mod Laws
pub mod Calls

-- ---- what is held
-- of a header: what it takes to judge it, and no more
abbrev pub HeaderHeld : List ℕ → Type 0
HeaderHeld s = s ≡ take (header_span s) s

abbrev pub image_width : List ℕ → ℕ
image_width s = axis_length (axis1 s)

abbrev pub image_rows : List ℕ → ℕ
image_rows s = axis_length (axis2 s)

-- of a row, in bytes: none where the block that has END is cut short, since no image comes then
unfoldable pub row_span : List ℕ → ℕ
row_span s = cond (ltb (length s) (image_start s)) 0 (2 * image_width s)

-- the header is held and accepted, and x is what it says of its image
pub record ImageStands (header : List ℕ) (x : ImageHeader) : Type 0 where
  pub held : HeaderHeld header
  pub accepted : header_number header ≡ 0
  pub says : x ≡ image_of header

-- ---- the memory that is lent for the table's record and for row i's: never too little
pub record Enough (m : List ℕ) (lends : ℕ → List ℕ) : Type 0 where
  pub table : 2078 ≤ length m
  pub rows : (i : ℕ) → 7178 ≤ length (lends i)

-- what converting some bytes comes to, with memory that is enough, has a property
abbrev pub Converted : List ℕ → (Conversion → Type 0) → Type 0
Converted s P = (m : List ℕ) (lends : ℕ → List ℕ) → Enough m lends → P (conversion m lends s)

-- ---- what is written
-- the first record: converting the header's bytes alone writes it and nothing else
pub record FirstRecord (header b : List ℕ) : Type 0 where
  pub held : HeaderHeld header
  pub bytes : Converted header (λ c. c.bytes ≡ b)

-- r rows were taken behind the header, and none is refused; image is their bytes
pub record RowsTaken (header image : List ℕ) (r : ℕ) : Type 0 where
  pub within : r ≤ image_rows header
  pub size : length image ≡ row_span header * r
  pub right : (i : ℕ) → i < r → image_row_number (image_width header) i (row_at (image_width header) image i) 7178 ≡ 0

-- they were, for some bytes
pub record RowsBefore (header : List ℕ) (r : ℕ) : Type 0 where
  pub image : List ℕ
  pub taken : RowsTaken header image r

-- the record of row r: for some rows that were taken before, it is what converting writes with the bytes that are held,
-- after what it writes without them
pub record NextRecord (header held : List ℕ) (r : ℕ) (b : List ℕ) : Type 0 where
  pub image : List ℕ
  pub taken : RowsTaken header image r
  pub most : length held ≤ row_span header
  pub bytes : (m : List ℕ) (lends : ℕ → List ℕ) → Enough m lends
      → (conversion m lends (header ++ (image ++ held))).bytes ≡ (conversion m lends (header ++ image)).bytes ++ b

-- a row as its turn has it: what its call answered with the bytes that are held, the record's bytes or the number that refuses it
pub record RowWritten (w r : ℕ) (held : List ℕ) (count : ℕ) (out : List ℕ) : Type 0 where
  pub number : image_row_number w r held 7178 ≡ 0
  pub bytes : take count out ≡ row_record w r held
  pub within : count ≤ length out

pub record RowRefused (w r : ℕ) (held : List ℕ) (number : ℕ) : Type 0 where
  pub is : number ≡ image_row_number w r held 7178
  pub some : number ≡ 0 → ⊥

abbrev pub RowMade : ℕ → ℕ → List ℕ → Result ℕ ℕ → List ℕ → Type 0
RowMade w r held (Ok count) out = RowWritten w r held count out
RowMade w r held (Err number) out = RowRefused w r held number

-- ---- how it ends
-- for some rows that were taken before, converting with the bytes that are held comes to these numbers, and writes nothing
-- that it does not write without them
pub record Ended (header held : List ℕ) (number fault rows : ℕ) : Type 0 where
  pub image : List ℕ
  pub size : length image ≡ row_span header * rows
  pub ends : (m : List ℕ) (lends : ℕ → List ℕ) → Enough m lends
      → conversion m lends (header ++ (image ++ held))
      ≡ record { header = number; fault = fault; rows = rows; bytes = (conversion m lends (header ++ image)).bytes }

-- all rows are written, or one is refused, whose bytes are the first of row
abbrev pub RowsEnded : List ℕ → List ℕ → Result ℕ RowFault → Type 0
RowsEnded header row (Ok rows) = Ended header [] 0 0 rows
RowsEnded header row (Err fault) = (fault.held ≤ 8192) × Ended header (take fault.held row) 0 fault.number fault.rows

-- l is the verdict of all the bytes that were taken
pub record EndVerdict (header held l : List ℕ) : Type 0 where
  pub number : ℕ
  pub fault : ℕ
  pub rows : ℕ
  pub ended : Ended header held number fault rows
  pub line : Converted (header ++ (ended.image ++ held)) (λ c. l ≡ verdict_line c)
