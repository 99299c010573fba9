-- The theorems about pictures: what is written is read back, and what is read becomes a sheet whose picture is the same again. The files
-- below prove them. s is the bytes of a file, tb those of a table, w the samples of a row and ls the lines of a picture. Assumes nothing.
use Rattle.std.specs.Prelude.{ℕ, ◌*◌, ◌≤◌, ◌<◌, ◌≡◌, true, List, ◌++◌, length, take, drop, ltb}
use Rattle.bitstream.specs.Bits.{Below}
use Rattle.row_format.specs.Lists.{any}
use Rattle.row_format.specs.Plain.{plain_bytes}
use Rattle.sheet_format.specs.Sheet.{sheet_read, stored_rows}
use Rattle.fits_format.specs.Image.{big_endian}
use Rattle.fits_format.specs.Heights.{numbered}
use Rattle.fits_format.specs.Conversion.{row_at, FirstFault}
use Rattle.fits_format.specs.Conversion.Sheet.{below_plain}
use Rattle.pgm_format.specs.Header.{pgm_front, pgm_header, PgmAccepted}
use Rattle.pgm_format.specs.Header.Accepted.{pgm-accepted}
use Rattle.pgm_format.specs.Header.Alike.{pgm-alike}
use Rattle.pgm_format.specs.Samples.{pgm_bytes, lines_in}
use Rattle.pgm_format.specs.Samples.Laws.{AllLong}
use Rattle.pgm_format.specs.Shape.{Padding, pgm_picture, sheet_pgm}
use Rattle.pgm_format.specs.Conversion.{line_refusal, pgm_conversion}
use Written.{AllLow, below-pgm, pgm-header, pgm-lines}
use Picture.{picture-fault, picture-high, picture-accepted, picture-stored, picture-again, plain-header}
pub mod Written
pub mod Picture

-- ---- the header
pub header-accepted : (s : List ℕ) → (pgm_header s).number ≡ 0 → PgmAccepted s (pgm_header s)
header-accepted = pgm-accepted

-- nothing after the blank that ends it is looked at
pub header-alike : (s t : List ℕ) → (pgm_header s).number ≡ 0 → take (pgm_header s).start t ≡ take (pgm_header s).start s
    → pgm_header t ≡ pgm_header s
header-alike = pgm-alike

-- ---- what is written is read back: 1 to 65536 lines of 1 to 4096 heights
module _ (w : ℕ) (ls : List (List ℕ)) (some : 1 ≤ w) (wide : w ≤ 4096) (any-rows : 1 ≤ length ls) (high : length ls ≤ 65536) where
  pub written-header : pgm_header (pgm_bytes w ls)
      ≡ record { number = 0; width = w; rows = length ls; start = length (pgm_front w (length ls)) }
  written-header = pgm-header w ls some wide any-rows high

  pub written-lines : AllLong w ls
      → let h = pgm_header (pgm_bytes w ls) in
      lines_in h.width h.rows (drop h.start (pgm_bytes w ls)) ≡ ls
  written-lines = pgm-lines w ls some wide any-rows high

-- and what is written is bytes, where the heights are at most 4095
pub written-bytes : (w : ℕ) (ls : List (List ℕ)) → AllLow ls → Below 256 (pgm_bytes w ls)
written-bytes = below-pgm

-- ---- what is read becomes a sheet
module _ (tb s : List ℕ) (ok : (pgm_conversion tb s).header ≡ 0) where
  -- the first row that is cut short or has a sample above 4095
  pub rows-fault :
      let h = pgm_header s in
      let c = pgm_conversion tb s in
      FirstFault (λ i. line_refusal h.width (row_at h.width (drop h.start s) i)) h.rows c.rows c.fault
  rows-fault = picture-fault tb s ok

  -- no sample is masked: one above 4095 is 4, and the sheet ends before its row
  pub high-sample : (k : ℕ) → k < (pgm_header s).rows
      → let w = (pgm_header s).width in
      let line : ℕ → List ℕ = row_at w (drop (pgm_header s).start s) in
      ((i : ℕ) → i < k → line_refusal w (line i) ≡ 0)
      → 2 * w ≤ length (line k) → any (ltb 4095) (big_endian w (line k)) ≡ true
      → ((pgm_conversion tb s).fault ≡ 4) × ((pgm_conversion tb s).rows ≡ k)
  high-sample = picture-high tb s ok

  module _ (table : Below 256 tb) where
    -- what was written is a sheet, whose rows are the lines before the fault, or all, numbered from 0
    pub sheet-accepted : (sheet_read (pgm_conversion tb s).bytes).number ≡ 0
    sheet-accepted = picture-accepted tb s ok table

    pub sheet-lines :
        let h = pgm_header s in
        let c = pgm_conversion tb s in
        stored_rows (sheet_read c.bytes).records ≡ numbered 0 (lines_in h.width c.rows (drop h.start s))
    sheet-lines = picture-stored tb s ok table

    -- and the picture of a sheet that has them all is a header as it is written, and the samples byte for byte
    pub same-again : Below 256 s → (pgm_conversion tb s).fault ≡ 0 → (p : Padding)
        → let h = pgm_header s in
        sheet_pgm p (stored_rows (sheet_read (pgm_conversion tb s).bytes).records)
        ≡ pgm_picture (pgm_front h.width h.rows ++ take (2 * h.width * h.rows) (drop h.start s))
    same-again = picture-again tb s ok table

-- under the plain table whatever has such a header does
pub plain-converts : (s : List ℕ) → (pgm_conversion plain_bytes s).header ≡ (pgm_header s).number
plain-converts = plain-header

pub plain-bytes : Below 256 plain_bytes
plain-bytes = below_plain
