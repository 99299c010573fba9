-- A binary PGM into a sheet: the table's record, then a packed row for each line of samples, numbered from 0. A fault ends the sheet
-- before that row's record, and earlier records stand, as with a scan (fits_format, `conversion`). tb is the table's bytes, s those of
-- the file. Definitions only; their laws are in Conversion/. Assumes nothing.
use Rattle.std.specs.Prelude.{ℕ, zero, suc, ◌*◌, List, length, drop, ltb}
use Rattle.answer.specs.Outcome.{Outcome, outcome, ◌or_else◌, refuse_if, unless}
use Rattle.row_format.specs.Table.{table_number}
use Rattle.row_format.specs.Row.{pixel_bytes, too_high}
use Rattle.sheet_format.specs.declared.SheetState.{SheetState}
use Rattle.sheet_format.specs.declared.RecordWritten.{RecordWritten}
use Rattle.sheet_format.specs.Context.{context_of}
use Rattle.sheet_format.specs.Writing.{not_written, record_written}
use Rattle.fits_format.specs.Heights.{table_bytes, heights_record}
use Rattle.fits_format.specs.Image.{big_endian}
use Rattle.fits_format.specs.Conversion.{RowsWritten, rows_end, row_first, Conversion, header_refused, after_header}
use Rattle.pgm_format.specs.Header.{pgm_header}
pub mod Laws
pub mod Again

-- ---- a row of w samples, whose bytes s begins with
-- 18 where they are cut short, then 4 for a sample above 4095
unfoldable pub line_refusal : ℕ → List ℕ → ℕ
line_refusal w s = refuse_if (ltb (length s) (2 * w)) 18 or_else too_high (big_endian w s)

-- the record of a line of samples
abbrev pub line_record : List ℕ → ℕ → ℕ → List ℕ → List ℕ
line_record tb w r s = heights_record tb r (big_endian w s)

-- ---- n rows from row r on
unfoldable pub line_records : List ℕ → ℕ → ℕ → ℕ → List ℕ → RowsWritten
line_records tb w zero r s = rows_end 0
line_records tb w (suc n) r s =
    unless (line_refusal w s) rows_end (row_first (line_record tb w r s) (line_records tb w n (suc r) (drop (2 * w) s)))

-- ---- the file: the table is looked at first, then the header
unfoldable pub pgm_conversion : List ℕ → List ℕ → Conversion
pgm_conversion tb s =
    let h = pgm_header s in
    unless (table_number tb or_else h.number) header_refused
    (after_header (table_bytes tb) (line_records tb h.width h.rows 0 (drop h.start s)))

-- ---- the call that writes a row's record, for whatever it is given: the samples are to be there, 1 to 4096 of them; the rest is what
-- the record writer answers
unfoldable pub before_samples : ℕ → ℕ → ℕ
before_samples w n = refuse_if (ltb w 1) 17 or_else refuse_if (ltb 4096 w) 11 or_else refuse_if (ltb n (2 * w)) 18

unfoldable pub pgm_row : ℕ → ℕ → List ℕ → SheetState → List ℕ → List ℕ → Outcome RecordWritten
pgm_row w r tb st s m =
    unless (before_samples w (length s)) (λ e. outcome (not_written e) m)
    (record_written 2 (record { row = r }) (context_of tb st) (pixel_bytes (big_endian w s)) m)
