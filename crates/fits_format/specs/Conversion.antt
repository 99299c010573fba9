-- Document 02, ticket 1, a whole scan: "The image comes a row at a time, so a fault ends the sheet before that row's record, and
-- earlier records stand." What the calls come to, one after another: the header's, and then a row's while no row is refused.
-- Definitions only. Assumes nothing.
use Rattle.std.specs.Prelude.{ℕ, zero, suc, ◌+◌, ◌*◌, ◌≤◌, ◌<◌, ◌≡◌, List, [], ◌++◌, map, length, take, drop, pos}
use Rattle.answer.specs.declared.Answer.{Answer}
use Rattle.answer.specs.Outcome.{Outcome, unless}
use Rattle.sheet_format.specs.Sheet.{sheet_read, stored_rows, heights_of, absent, present}
use Rattle.fits_format.specs.Header.{header_read}
use Rattle.fits_format.specs.Image.{signed_pixels, row_record, image_row_number, image_row}
pub mod Laws
pub mod Sheet
pub mod Alike

-- ---- rows
-- number   the number of the row that is refused, 0 where none is
-- rows     the rows before it, or all
-- bytes    what their calls wrote
pub record RowsWritten : Type 0 where
  pub number : ℕ
  pub rows : ℕ
  pub bytes : List ℕ

abbrev pub rows_end : ℕ → RowsWritten
rows_end e = record { number = e; rows = 0; bytes = [] }

abbrev pub row_first : List ℕ → RowsWritten → RowsWritten
row_first b x = record { number = x.number; rows = suc x.rows; bytes = b ++ x.bytes }

-- what a done call wrote: the bytes that it counts, at the front of its memory
abbrev pub bytes_counted : Outcome Answer → List ℕ
bytes_counted o = take o.answer.count o.memory

-- n rows from row r on; s is the image's bytes from there on, and lends i is the memory lent for row i
unfoldable pub row_calls : (ℕ → List ℕ) → ℕ → ℕ → ℕ → List ℕ → RowsWritten
row_calls lends w zero r s = rows_end 0
row_calls lends w (suc n) r s =
    unless (image_row w r s (lends r)).answer.number rows_end
    (row_first (bytes_counted (image_row w r s (lends r))) (row_calls lends w n (suc r) (drop (2 * w) s)))

-- ---- the scan
-- header   the header's number
-- fault    the number of the row that is refused, 0 where none is
-- rows     the rows before it, or all
-- bytes    what the calls wrote
pub record Conversion : Type 0 where
  pub header : ℕ
  pub fault : ℕ
  pub rows : ℕ
  pub bytes : List ℕ

abbrev pub header_refused : ℕ → Conversion
header_refused e = record { header = e; fault = 0; rows = 0; bytes = [] }

abbrev pub after_header : List ℕ → RowsWritten → Conversion
after_header b x = record { header = 0; fault = x.number; rows = x.rows; bytes = b ++ x.bytes }

-- s is the file, m the memory lent for the header's call
unfoldable pub conversion : List ℕ → (ℕ → List ℕ) → List ℕ → Conversion
conversion m lends s =
    let h = header_read s m in
    unless h.answer.number header_refused
    (after_header (take h.answer.count h.memory)
    (row_calls lends h.answer.width h.answer.rows 0 (drop h.answer.start s)))

-- ---- what is to be true of it
-- the image's bytes from row i on
abbrev pub row_at : ℕ → List ℕ → ℕ → List ℕ
row_at w image i = drop (2 * w * i) image

-- the number that row i has, and its record
abbrev pub row_number_at : (ℕ → List ℕ) → ℕ → List ℕ → ℕ → ℕ
row_number_at lends w image i = image_row_number w i (row_at w image i) (length (lends i))

abbrev pub row_record_at : ℕ → List ℕ → ℕ → List ℕ
row_record_at w image i = row_record w i (row_at w image i)

-- records one after another: k of them, from record r on
unfoldable pub in_order : (ℕ → List ℕ) → ℕ → ℕ → List ℕ
in_order f r zero = []
in_order f r (suc k) = f r ++ in_order f (suc r) k

-- of n rows that have such numbers the first faulty one is row k, and e is its number; where none is, k is n and e is 0
pub record FirstFault (numbers : ℕ → ℕ) (n k e : ℕ) : Type 0 where
  pub within : k ≤ n
  pub before : (i : ℕ) → i < k → numbers i ≡ 0
  pub faulty : k < n → (e ≡ numbers k) × (e ≡ 0 → ⊥)
  pub whole : k ≡ n → e ≡ 0

-- some bytes are a sheet of k rows, which are the image's
pub record SheetOfImage (w : ℕ) (image : List ℕ) (k : ℕ) (b : List ℕ) : Type 0 where
  pub accepted : (sheet_read b).number ≡ 0
  pub rows : length (stored_rows (sheet_read b).records) ≡ k
  pub heights : (i : ℕ) → i < k
      → (hs : List ℕ) × (heights_of i (stored_rows (sheet_read b).records) ≡ present hs) × (map pos hs ≡ signed_pixels w (row_at w image i))
  pub others : (i : ℕ) → k ≤ i → heights_of i (stored_rows (sheet_read b).records) ≡ absent
