-- A picture as a program converts it that holds the front of a file and one row at a time: what it holds, what it may write with that,
-- and how it ends. Each is said by what converting the bytes that were taken comes to (pgm_format, `pgm_conversion`); tb is the table's
-- bytes. Definitions only. Assumes nothing.
use Rattle.std.specs.Prelude.{ℕ, ◌+◌, ◌*◌, ◌≤◌, ◌<◌, min, ◌≡◌, List, [], ◌++◌, length, take, drop, Result, Ok, Err}
use Rattle.answer.specs.Outcome.{unless, answer_of}
use Rattle.row_format.specs.Calls.{checked}
use Rattle.fits_format.specs.Conversion.{row_at}
use Rattle.fits_reader.specs.Verdict.{verdict_line}
use Rattle.pgm_format.specs.declared.PgmHeader.{PgmHeader}
use Rattle.pgm_format.specs.Header.{pgm_header, as_pgm}
use Rattle.pgm_format.specs.Conversion.{line_refusal, line_record, pgm_conversion}
use Rattle.pgm_to_sheet.specs.declared.rows.RowFault.{RowFault}
pub mod Front
pub mod Laws
pub mod Calls
pub mod Theorems

-- ---- what is held
-- bytes that were taken are those of the front, as far as both go
abbrev pub Agrees : List ℕ → List ℕ → Type 0
Agrees front taken = take (length front) taken ≡ take (length taken) front

-- of a row of so many bytes: no more than those, and no less than the front has of them; rest is the front from the row's place on
pub record SpanHeld (rest held : List ℕ) (span : ℕ) : Type 0 where
  pub most : length held ≤ span
  pub least : min span (length rest) ≤ length held
  pub agrees : Agrees rest held

-- the header's own bytes; all that was read, where the header is refused
unfoldable pub header_bytes : List ℕ → List ℕ
header_bytes front = let h = pgm_header front in unless h.number (λ e. front) (take h.start front)

-- the table is accepted, its longest item has so many bits, and h is what the front says of the picture
pub record PictureStands (tb : List ℕ) (most : ℕ) (front : List ℕ) (h : PgmHeader) : Type 0 where
  pub table : checked tb ≡ answer_of 0 most
  pub header : as_pgm (Ok h) ≡ pgm_header front

-- r rows were taken behind the header, and none is refused; image is their bytes
pub record LinesTaken (front image : List ℕ) (r : ℕ) : Type 0 where
  pub within : r ≤ (pgm_header front).rows
  pub size : length image ≡ 2 * (pgm_header front).width * r
  pub agrees : Agrees front (header_bytes front ++ image)
  pub right : (i : ℕ) → i < r → line_refusal (pgm_header front).width (row_at (pgm_header front).width image i) ≡ 0

-- and then these bytes of row r are held
abbrev pub LineHeld : List ℕ → List ℕ → ℕ → Type 0
LineHeld front held r =
    let h = pgm_header front in
    SpanHeld (drop (h.start + 2 * h.width * r) front) held (2 * h.width)

-- ---- what is written
-- the first record: converting the header's bytes alone writes it and nothing else
pub record TableWritten (tb front b : List ℕ) : Type 0 where
  pub bytes : (pgm_conversion tb (header_bytes front)).bytes ≡ b

-- the record of row r: for some rows that were taken before, it is what converting writes with the bytes that are held of row r, after
-- what it writes without them
pub record LineAdded (tb front held : List ℕ) (r : ℕ) (b : List ℕ) : Type 0 where
  pub image : List ℕ
  pub taken : LinesTaken front image r
  pub row : LineHeld front held r
  pub rows : (pgm_conversion tb (header_bytes front ++ image)).rows ≡ r
  pub bytes : (pgm_conversion tb (header_bytes front ++ (image ++ held))).bytes ≡ (pgm_conversion tb (header_bytes front ++ image)).bytes ++ b

-- ---- how it ends
-- for some rows that were taken before, converting with the bytes that are held of the next comes to these numbers, and writes nothing
-- that it does not write without them. Behind the last row nothing is held, and a header that is refused has no rows
pub record PictureEnded (tb front held : List ℕ) (number fault rows : ℕ) : Type 0 where
  pub image : List ℕ
  pub taken : LinesTaken front image rows
  pub next : rows < (pgm_header front).rows → LineHeld front held rows
  pub last : rows ≡ (pgm_header front).rows → held ≡ []
  pub ends : pgm_conversion tb (header_bytes front ++ (image ++ held))
      ≡ record { header = number; fault = fault; rows = rows; bytes = (pgm_conversion tb (header_bytes front ++ image)).bytes }

-- l is the verdict of all the bytes that were taken
pub record PictureVerdict (tb front held l : List ℕ) : Type 0 where
  pub number : ℕ
  pub fault : ℕ
  pub rows : ℕ
  pub ended : PictureEnded tb front held number fault rows
  pub line : l ≡ verdict_line (pgm_conversion tb (header_bytes front ++ (ended.image ++ held)))

-- ---- row by row
-- r rows were taken, for some bytes
pub record LinesBefore (front : List ℕ) (r : ℕ) : Type 0 where
  pub image : List ℕ
  pub taken : LinesTaken front image r

-- a row as its turn has it: what its call answered with the bytes that are held, the record's bytes or the number that refuses it
pub record LineWritten (tb : List ℕ) (w r : ℕ) (held : List ℕ) (count : ℕ) (out : List ℕ) : Type 0 where
  pub number : line_refusal w held ≡ 0
  pub bytes : take count out ≡ line_record tb w r held
  pub within : count ≤ length out

pub record LineRefused (w : ℕ) (held : List ℕ) (number : ℕ) : Type 0 where
  pub is : number ≡ line_refusal w held
  pub some : number ≡ 0 → ⊥

abbrev pub LineMade : List ℕ → ℕ → ℕ → List ℕ → Result ℕ ℕ → List ℕ → Type 0
LineMade tb w r held (Ok count) out = LineWritten tb w r held count out
LineMade tb w r held (Err number) out = LineRefused w held number

-- all rows are written, or one is refused, whose bytes are the first of row
abbrev pub LinesEnded : List ℕ → List ℕ → List ℕ → Result ℕ RowFault → Type 0
LinesEnded tb front row (Ok rows) = PictureEnded tb front [] 0 0 rows
LinesEnded tb front row (Err fault) =
    (fault.held ≤ 8192) × PictureEnded tb front (take fault.held row) 0 fault.number fault.rows
