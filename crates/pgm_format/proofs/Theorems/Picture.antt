-- What becomes of a picture: the sheet that it is turned into, and the picture of that sheet again. Assumes nothing.
use Rattle.std.specs.Prelude.{ℕ, zero, suc, ◌*◌, ◌≤◌, ◌<◌, ◌≡◌, true, List, ◌++◌, take, drop, ltb}
use Rattle.std.proofs.Common.{arith, sym, ◌∙◌, le-ltb, ltb-true, ltb-false}
use Rattle.std.proofs.Math.Path.{refl, ap}
use Rattle.std.proofs.Math.ListN.{length}
use Rattle.bitstream.specs.Bits.{Below}
use Rattle.bitstream.specs.Bits.Laws.{below-drop}
use Rattle.answer.specs.Outcome.{◌or_else◌}
use Rattle.answer.specs.Outcome.Laws.{or_else-zero-left, or_else-zero-right, unless-number}
use Rattle.row_format.specs.Lists.{any}
use Rattle.row_format.specs.Lists.Laws.{by-test}
use Rattle.row_format.specs.Table.{table_number}
use Rattle.row_format.specs.Plain.{plain_bytes}
use Rattle.code_table.specs.Plain.Laws.{plain-accepted}
use Rattle.sheet_format.specs.Sheet.{sheet_read, stored_rows}
use Rattle.fits_format.specs.Heights.{table_bytes, numbered}
use Rattle.fits_format.specs.Heights.Sheet.{sheet-accepted, sheet-rows}
use Rattle.fits_format.specs.Image.{big_endian}
use Rattle.fits_format.specs.Image.Laws.{length-big_endian}
use Rattle.fits_format.specs.Conversion.{RowsWritten, Conversion, header_refused, after_header, row_at, FirstFault}
use Rattle.pgm_format.specs.Header.{pgm_front, pgm_header, PgmAccepted}
use Rattle.pgm_format.specs.Header.Accepted.{pgm-accepted}
use Rattle.pgm_format.specs.Samples.{pgm_bytes, lines_in}
use Rattle.pgm_format.specs.Samples.Laws.{AllLong, length-lines_in, lines_bytes-lines_in}
use Rattle.pgm_format.specs.Shape.{Padding, pgm_picture, sheet_pgm}
use Rattle.pgm_format.specs.Conversion.{line_refusal, line_records, pgm_conversion}
use Rattle.pgm_format.proofs.Conversion.Rows.{UpToLine, lines-up-to, rows_are, number_is}
use Rattle.pgm_format.specs.Conversion.Again.{numbered-picture}

-- lines that are read are of one length
long-lines_in : (w n : ℕ) (s : List ℕ) → AllLong w (lines_in w n s)
unfolding lines_in
long-lines_in w zero s = tt
long-lines_in w (suc n) s = (length-big_endian w s, long-lines_in w n (drop (2 * w) s))

-- the first sample above 4095 of rows that are there is refused 4
pub high-number : (w : ℕ) (s : List ℕ) → 2 * w ≤ length s → any (ltb 4095) (big_endian w s) ≡ true → line_refusal w s ≡ 4
unfolding line_refusal
high-number w s there high = rw (le-ltb (length s) (2 * w) there, high)

module _ (tb s : List ℕ) where
  abbrev image : List ℕ
  image = drop (pgm_header s).start s

  header-number : (pgm_conversion tb s).header ≡ table_number tb or_else (pgm_header s).number
  unfolding pgm_conversion
  header-number =
      unless-number (λ (c : Conversion). c.header) header_refused
      (after_header (table_bytes tb) (line_records tb (pgm_header s).width (pgm_header s).rows 0 image)) (λ k. refl)
      (table_number tb or_else (pgm_header s).number) refl

  module _ (ok : (pgm_conversion tb s).header ≡ 0) where
    none : table_number tb or_else (pgm_header s).number ≡ 0
    none = sym header-number ∙ ok

    pub table-ok : table_number tb ≡ 0
    table-ok = or_else-zero-left (table_number tb) (pgm_header s).number none

    pub header_ok : (pgm_header s).number ≡ 0
    header_ok = or_else-zero-right (table_number tb) (pgm_header s).number none

    accepted : PgmAccepted s (pgm_header s)
    accepted = pgm-accepted s header_ok

    abbrev rows_written_lem : RowsWritten
    rows_written_lem = line_records tb (pgm_header s).width (pgm_header s).rows 0 image

    pub conversion-is : pgm_conversion tb s ≡ after_header (table_bytes tb) rows_written_lem
    unfolding pgm_conversion
    conversion-is = rw none

    up_to : UpToLine tb (pgm_header s).width 0 (pgm_header s).rows image rows_written_lem
    up_to = lines-up-to tb (pgm_header s).width accepted.width-most (pgm_header s).rows 0 image

    -- the first faulty row
    pub picture-fault : let c = pgm_conversion tb s in
        FirstFault (λ i. line_refusal (pgm_header s).width (row_at (pgm_header s).width image i)) (pgm_header s).rows c.rows c.fault
    picture-fault =
        rw conversion-is up_to.fault

    -- a row with a sample above 4095, where the rows before it are right
    pub picture-high : (k : ℕ) → k < (pgm_header s).rows
        → let line : ℕ → List ℕ = row_at (pgm_header s).width image in
        ((i : ℕ) → i < k → line_refusal (pgm_header s).width (line i) ≡ 0)
        → 2 * (pgm_header s).width ≤ length (line k) → any (ltb 4095) (big_endian (pgm_header s).width (line k)) ≡ true
        → let c = pgm_conversion tb s in
        (c.fault ≡ 4) × (c.rows ≡ k)
    picture-high k inside right there high =
        let w = (pgm_header s).width in
        let four = high-number w (row_at w image k) there high in
        let stops : k < (pgm_header s).rows → line_refusal w (row_at w image k) ≡ 0 → ⊥ = λ less e. absurd (omega (arith, four, e)) in
        let most : k ≤ (pgm_header s).rows = omega (arith, inside) in
        rw conversion-is (number_is up_to k most right stops inside ∙ four, rows_are up_to k most right stops)

    -- what was written is a sheet, and its rows are the lines before it
    module _ (table : Below 256 tb) where
      abbrev lines : List (List ℕ)
      lines = lines_in (pgm_header s).width rows_written_lem.rows image

      few : length lines ≤ 65536
      few =
          omega (arith, length-lines_in (pgm_header s).width rows_written_lem.rows image, up_to.fault.within, accepted.rows-most)

      pub picture-accepted : (sheet_read (pgm_conversion tb s).bytes).number ≡ 0
      picture-accepted = rw (conversion-is, up_to.bytes) (sheet-accepted tb table-ok table lines few up_to.right)

      pub picture-stored : let c = pgm_conversion tb s in
          stored_rows (sheet_read c.bytes).records ≡ numbered 0 (lines_in (pgm_header s).width c.rows image)
      picture-stored = rw (conversion-is, up_to.bytes) (sheet-rows tb table-ok table lines few up_to.right)

      -- of a picture without a fault: its picture again
      module _ (bytes : Below 256 s) (whole : (pgm_conversion tb s).fault ≡ 0) where
        pub all-rows : rows_written_lem.rows ≡ (pgm_header s).rows
        all-rows =
            let number : rows_written_lem.number ≡ 0 = rw conversion-is at whole in
            by-test (ltb rows_written_lem.rows (pgm_header s).rows)
            (λ t. absurd ((up_to.fault.faulty (ltb-true rows_written_lem.rows (pgm_header s).rows t)).1 number))
            (λ t. omega (arith, ltb-false rows_written_lem.rows (pgm_header s).rows t, up_to.fault.within))

        pub picture-again : (p : Padding)
            → let h = pgm_header s in
            sheet_pgm p (stored_rows (sheet_read (pgm_conversion tb s).bytes).records)
            ≡ pgm_picture (pgm_front h.width h.rows ++ take (2 * h.width * h.rows) image)
        unfolding pgm_bytes
        picture-again p =
            let w = (pgm_header s).width in
            let n = rows_written_lem.rows in
            let size = length-lines_in w n image in
            let some : 0 < length lines = omega (arith, size, all-rows, accepted.rows-least) in
            let there = up_to.there in
            ap (sheet_pgm p)
            (picture-stored ∙ ap (λ (c : Conversion). numbered 0 (lines_in w c.rows image)) conversion-is)
            ∙ numbered-picture w accepted.width-least lines (long-lines_in w n image) some p
            ∙ rw (lines_bytes-lines_in w n image (below-drop (pgm_header s).start s bytes) there, size, all-rows)

-- ---- under the plain table
pub plain-header : (s : List ℕ) → (pgm_conversion plain_bytes s).header ≡ (pgm_header s).number
plain-header s = header-number plain_bytes s ∙ rw plain-accepted
