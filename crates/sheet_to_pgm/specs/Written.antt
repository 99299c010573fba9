-- What the program may write: the picture that is defined for an accepted sheet (pgm_format, `sheet_pgm`), or the reason why there is
-- none. Definitions only; their laws are in Written/Laws.antt. Assumes nothing.
use Rattle.std.specs.Prelude.{ℕ, ◌+◌, ◌≤◌, ◌<◌, ◌≡◌, true, cond, List, [], ◌++◌, Option, Some, None}
use Rattle.text.specs.Text.{ascii, field, fields}
use Rattle.sheet_format.specs.declared.RecordRead.{RecordRead}
use Rattle.sheet_format.specs.Kind.{is_row}
use Rattle.sheet_format.specs.Kinds.{kind_of}
use Rattle.sheet_format.specs.Reading.{record_judged}
use Rattle.sheet_format.specs.Sheet.{Heights, absent, present, heights_of, stored_rows, sheet_read}
use Rattle.sheet_format.specs.Stream.{held_of, Carried, context_by, Carries}
use Rattle.pgm_format.specs.Header.{pgm_front}
use Rattle.pgm_format.specs.Samples.{samples_of, lines_bytes}
use Rattle.pgm_format.specs.Shape.{LineFault, no_fault, row_missing, row_unequal, padded_line, padded_lines, Padding, no_padding, pad_with}
use Rattle.pgm_format.specs.Shape.{SheetPgm, no_heights, at_fault, pgm_picture, sheet_pgm}
use Rattle.sheet_stream.specs.AcceptedRecord.{AcceptedRecord, row_answered}
pub mod Laws
pub mod Theorems

-- what a row lacks is a fault, or is this
abbrev pub padding : Option ℕ → Padding
padding None = no_padding
padding (Some h) = pad_with h

-- what a line lacks is this; a picture without padding lacks nothing
abbrev pub pad_height : Option ℕ → ℕ
pad_height None = 0
pad_height (Some h) = h

-- ---- no picture
-- `row 3 is missing`, `row 7 has 12 heights and row 0 has 16`
unfoldable pub fault_text : LineFault → List ℕ
fault_text no_fault = []
fault_text (row_missing n) = field (ascii "row ") n ++ ascii " is missing"
fault_text (row_unequal n k w) = fields (ascii "row ") n (ascii " has ") k ++ field (ascii " heights and row 0 has ") w

unfoldable pub reason_text : SheetPgm → List ℕ
reason_text no_heights = ascii "there are no heights"
reason_text (at_fault f) = fault_text f
reason_text (pgm_picture b) = []

-- text says why some accepted sheet has no picture
pub record Reason (p : Option ℕ) (text : List ℕ) : Type 0 where
  pub sheet : List ℕ
  pub accepted : (sheet_read sheet).number ≡ 0
  pub says : text ≡ reason_text (sheet_pgm (padding p) (stored_rows (sheet_read sheet).records))

-- without padding, some accepted sheet has this fault
pub record FaultFound (f : LineFault) : Type 0 where
  pub sheet : List ℕ
  pub accepted : (sheet_read sheet).number ≡ 0
  pub fault : sheet_pgm no_padding (stored_rows (sheet_read sheet).records) ≡ at_fault f

-- ---- a picture
-- of some accepted sheet: c lines of w heights. Here as above, that it is the sheet that was read is the loop's (judge_sheet)
pub record PictureFound (p : Option ℕ) (w c : ℕ) : Type 0 where
  pub sheet : List ℕ
  pub accepted : (sheet_read sheet).number ≡ 0
  pub wide : w ≤ 4096
  pub picture : sheet_pgm (padding p) (stored_rows (sheet_read sheet).records)
      ≡ pgm_picture (pgm_front w c ++ lines_bytes (padded_lines (pad_height p) w 0 c (stored_rows (sheet_read sheet).records)))

-- text is its header
pub record PictureFront (p : Option ℕ) (w c : ℕ) (text : List ℕ) : Type 0 where
  pub found : PictureFound p w c
  pub front : text ≡ pgm_front w c

-- for some bytes that were taken before, accepted records to their end, those that are held are the sheet's next record, and it is
-- accepted; row n, which could still come before it was read, is settled by it: the sheet has x there, whatever follows
pub record RowSettled (held : List ℕ) (n : ℕ) (x : Heights) : Type 0 where
  pub taken : List ℕ
  pub carried : Carried
  pub carries : Carries taken carried
  pub whole : held ≡ held_of held
  pub accepted : (record_judged (context_by carried) held).number ≡ 0
  pub later : carried.state.least_row ≤ n
  pub row : (rest : List ℕ) → heights_of n (stored_rows (sheet_read (taken ++ held ++ rest)).records) ≡ x

-- text is its line n, of w heights, and h where it lacks them
pub record LineWritten (h w n : ℕ) (held text : List ℕ) : Type 0 where
  pub heights : Heights
  pub settled : RowSettled held n heights
  pub line : text ≡ samples_of (padded_line h w heights)

-- ---- the record that was read last, where it is a row: it is settled, and so are those that it passes over, from the least on
pub record RowBrought (held : List ℕ) (least : ℕ) (a : RecordRead) (content : List ℕ) : Type 0 where
  pub next : AcceptedRecord held a content
  pub low : is_row (kind_of a.kind).holds ≡ true → least ≤ a.row
  pub own : is_row (kind_of a.kind).holds ≡ true → RowSettled held a.row (present (row_answered a content).heights)
  pub gap : is_row (kind_of a.kind).holds ≡ true → (n : ℕ) → least ≤ n → n < a.row → RowSettled held n absent

-- the number of the line that comes after it
abbrev pub lines_after : ℕ → RecordRead → ℕ
lines_after n a = cond (is_row (kind_of a.kind).holds) (a.row + 1) n
