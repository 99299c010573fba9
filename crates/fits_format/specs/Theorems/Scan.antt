-- A whole scan: its calls write the records before the first faulty row, and these are a sheet of the image. Assumes nothing.
use Rattle.std.specs.Prelude.{ℕ, ◌<◌, ◌≡◌, refl, List, ◌++◌, length, take, drop}
use Rattle.std.proofs.Common.{sym, ap, ◌∙◌}
use Rattle.std.proofs.Math.Seq.{take-append_seam}
use Rattle.answer.specs.Outcome.{◌or_else◌, lent, room_number}
use Rattle.answer.specs.Outcome.Laws.{unless-refused}
use Rattle.fits_format.specs.Header.{header_number, plain_table_record, header_read}
use Rattle.fits_format.specs.Image.{image_row_number}
use Rattle.fits_format.specs.Image.Call.{image_row-stands, image_row-heights}
use Rattle.fits_format.specs.Conversion.{RowsWritten, row_calls, header_refused, after_header, conversion, row_at, row_number_at, row_record_at, in_order, FirstFault, SheetOfImage}
use Rattle.fits_format.specs.Conversion.Laws.{row_calls-fault, row_calls-bytes}
use Rattle.fits_format.specs.Theorems.Header.{header_read-number}
use Rattle.fits_format.specs.Conversion.Sheet.{RowRight, image-sheet}

module _ (m : List ℕ) (lends : ℕ → List ℕ) (s : List ℕ) where
  pub scan-refused : ((header_read s m).answer.number ≡ 0 → ⊥)
      → conversion m lends s ≡ header_refused (header_read s m).answer.number
  unfolding conversion
  scan-refused some = unless-refused (header_read s m).answer.number header_refused _ some

  module _ (ok : (header_read s m).answer.number ≡ 0) where
    abbrev image : List ℕ
    image = drop (header_read s m).answer.start s

    abbrev rows_written : RowsWritten
    rows_written = row_calls lends (header_read s m).answer.width (header_read s m).answer.rows 0 image

    -- the header's call wrote the table's record
    header-none : header_number s or_else room_number (lent (length m)) (length plain_table_record) ≡ 0
    header-none = sym (header_read-number s m) ∙ ok

    table_counted : take (header_read s m).answer.count (header_read s m).memory ≡ plain_table_record
    unfolding header_read
    table_counted = rw header-none (take-append_seam plain_table_record (drop (length plain_table_record) m))

    scan-is : conversion m lends s ≡ after_header plain_table_record rows_written
    unfolding conversion
    scan-is = rw (ok, table_counted)

    pub scan-fault : let c = conversion m lends s in
        (c.header ≡ 0)
        × FirstFault (row_number_at lends (header_read s m).answer.width image) (header_read s m).answer.rows c.rows c.fault
    scan-fault = rw scan-is (refl, row_calls-fault lends (header_read s m).answer.width image (header_read s m).answer.rows)

    pub scan-bytes : let c = conversion m lends s in
        c.bytes ≡ plain_table_record ++ in_order (row_record_at (header_read s m).answer.width image) 0 c.rows
    scan-bytes =
        rw scan-is
        (ap (λ (b : List ℕ). plain_table_record ++ b)
        (row_calls-bytes lends (header_read s m).answer.width image (header_read s m).answer.rows))

    -- the rows before the fault are right
    rows_right : (i : ℕ) → i < (conversion m lends s).rows
        → RowRight (header_read s m).answer.width i (row_at (header_read s m).answer.width image i)
    rows_right i h =
        let w = (header_read s m).answer.width in
        let none : image_row_number w i (row_at w image i) (length (lends i)) ≡ 0 = scan-fault.1.before i h in
        let stands = image_row-stands w i (row_at w image i) (lends i) none in
        record {
          narrow = stands.narrow;
          low = stands.low;
          heights = image_row-heights w i (row_at w image i) (lends i) none;
        }

    pub scan-sheet : let c = conversion m lends s in
        SheetOfImage (header_read s m).answer.width image c.rows c.bytes
    scan-sheet =
        let w = (header_read s m).answer.width in
        let k = (conversion m lends s).rows in
        rw scan-bytes (image-sheet w image k rows_right)
