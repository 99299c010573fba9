-- The theorems about scans, in the words of document 02, ticket 1; the files below prove them. s is the bytes of a file or, of
-- a row's call, the image's bytes from that row on; w is the image's width and r a row's number; m is the memory lent for a
-- call, as it was, and lends i the memory lent for row i. Assumes nothing.
use Rattle.std.specs.Prelude.{ℕ, ◌+◌, ◌*◌, ◌≤◌, ◌≡◌, true, List, ◌++◌, map, length, take, drop, eqb, pos}
use Rattle.answer.specs.Outcome.{refusal, refused, Kept, Within}
use Rattle.row_format.specs.Lists.{any}
use Rattle.fits_format.specs.Header.{header_cards, stands, end_card, header_span, plain_table_record, no_image, header_numbers, header_read, HeaderAccepted}
use Rattle.fits_format.specs.Image.{signed_pixels, out_of_range, row_heights, before_pixels, image_row_numbers, image_row}
use Rattle.fits_format.specs.Conversion.{row_calls, header_refused, conversion, row_number_at, row_record_at, in_order, FirstFault, SheetOfImage}
use Rattle.fits_format.specs.Conversion.Laws.{row_calls-fault, row_calls-bytes}
use Rattle.fits_format.specs.Conversion.Alike.{image_row-take, conversion-alike}
use Header.{header_read-numbers, header_read-kept, header_read-within, header_read-accepted}
use Row.{image_row-numbers, image_row-kept, image_row-within, image_row-pixel, image_row-same, image_row-room-enough}
use Start.{blocks_start}
use Scan.{scan-refused, scan-fault, scan-bytes, scan-sheet}
use Span.{through-end, prefix-final, header_span-same}
pub mod Header
pub mod Row
pub mod Scan
pub mod Span
pub mod Start

-- ---- the header
-- an accepted header: axes of 1 to 4096, an END that is there, and a start past it
pub header-accepted : (s m : List ℕ) → (header_read s m).answer.number ≡ 0 → HeaderAccepted s (header_read s m).answer
header-accepted = header_read-accepted

-- What is not looked at changes no answer: two byte strings alike through END's card get the same.
pub header-alike : (s t m : List ℕ) → stands "END     " (header_cards s) ≡ true
    → take (80 * (end_card s + 1)) t ≡ take (80 * (end_card s + 1)) s → header_read t m ≡ header_read s m
header-alike s t m there = through-end s there t m

-- So a file can be streamed: its blocks to END's, or ten of them, are enough, truncated or not; and an answer other than 17 to
-- the bytes that have come is the answer to the file, however it goes on.
pub header-span : (s m : List ℕ) → header_read (take (header_span s) s) m ≡ header_read s m
header-span = header_span-same

pub header-final : (n : ℕ) (s m : List ℕ) → ((header_read (take n s) m).answer.number ≡ 17 → ⊥)
    → header_read (take n s) m ≡ header_read s m
header-final = prefix-final

-- Where the first k blocks get 17 and with one more the header is accepted, the image begins with the byte after that one.
pub header-start : (k : ℕ) (s m : List ℕ) → (header_read (take (2880 * k) s) m).answer.number ≡ 17
    → (header_read (take (2880 * (k + 1)) s) m).answer.number ≡ 0
    → (header_read (take (2880 * (k + 1)) s) m).answer.start ≡ 2880 * (k + 1)
header-start = blocks_start

-- ---- a row
-- "a pixel below 0 or above 4095 refused with 4": of a row that is there, whatever its other pixels and the room
pub row-pixel-refused : (w r : ℕ) (s m : List ℕ) → before_pixels w r (length s) ≡ 0 → any out_of_range (signed_pixels w s) ≡ true
    → image_row w r s m ≡ refused 4 m
row-pixel-refused = image_row-pixel

-- "since masking would invent a height": the heights of a row that is done are its pixels
pub row-pixels-same : (w r : ℕ) (s m : List ℕ) → (image_row w r s m).answer.number ≡ 0 → map pos (row_heights w s) ≡ signed_pixels w s
row-pixels-same = image_row-same

-- 7178 bytes are always room enough
pub row_room : (w r : ℕ) (s m : List ℕ) → 7178 ≤ length m → (image_row w r s m).answer.number ≡ 5 → ⊥
row_room = image_row-room-enough

-- Nothing after the row's bytes is looked at, and so two bytes a pixel are enough, cut short or not.
pub row-span : (w r : ℕ) (s m : List ℕ) → image_row w r (take (2 * w) s) m ≡ image_row w r s m
row-span = image_row-take

-- ---- a whole scan
-- "All rows carry one claim, over any row count": of n rows called one after another the first faulty one, and the bytes that
-- the calls before it wrote
module _ (lends : ℕ → List ℕ) (w : ℕ) (image : List ℕ) (n : ℕ) where
  pub rows-fault : let x = row_calls lends w n 0 image in FirstFault (row_number_at lends w image) n x.rows x.number
  rows-fault = row_calls-fault lends w image n

  pub rows-bytes : let x = row_calls lends w n 0 image in x.bytes ≡ in_order (row_record_at w image) 0 x.rows
  rows-bytes = row_calls-bytes lends w image n

module _ (m : List ℕ) (lends : ℕ → List ℕ) (s : List ℕ) where
  -- a header that is refused: its number, and nothing is written
  pub scan-header-refused : ((header_read s m).answer.number ≡ 0 → ⊥)
      → conversion m lends s ≡ header_refused (header_read s m).answer.number
  scan-header-refused = scan-refused m lends s

  module _ (ok : (header_read s m).answer.number ≡ 0) where
    -- "a fault ends the sheet before that row's record": the number is the first faulty row's, 0 where there is none
    pub scan-number :
        let h = (header_read s m).answer in
        let c = conversion m lends s in
        (c.header ≡ 0) × FirstFault (row_number_at lends h.width (drop h.start s)) h.rows c.rows c.fault
    scan-number = scan-fault m lends s ok

    -- "whose record is written once the header is accepted"; "earlier records stand"
    pub scan-written :
        let h = (header_read s m).answer in
        let c = conversion m lends s in
        c.bytes ≡ plain_table_record ++ in_order (row_record_at h.width (drop h.start s)) 0 c.rows
    scan-written = scan-bytes m lends s ok

    -- "turn each image row into a row of a sheet": what was written is a sheet, and its rows are the image's
    pub scan-is-sheet :
        let h = (header_read s m).answer in
        let c = conversion m lends s in
        SheetOfImage h.width (drop h.start s) c.rows c.bytes
    scan-is-sheet = scan-sheet m lends s ok

-- "what follows the last row isn't looked at": two files alike through END's card, and in the image as far as they go, get
-- the same answers throughout, whatever stands between END's card and the image and after the last row
pub scan-alike : (m : List ℕ) (lends : ℕ → List ℕ) (s t : List ℕ) → stands "END     " (header_cards s) ≡ true
    → take (80 * (end_card s + 1)) t ≡ take (80 * (end_card s + 1)) s
    → let h = (header_read s m).answer in
    take (2 * h.width * h.rows) (drop h.start s) ≡ take (2 * h.width * h.rows) (drop h.start t)
    → conversion m lends s ≡ conversion m lends t
scan-alike m lends s t there alike = conversion-alike m lends s t (through-end s there t m alike)

-- ---- demand 1
-- "each call .. answers with a number": those that the ticket lists
pub header-numbers : (s m : List ℕ) → any (eqb (header_read s m).answer.number) header_numbers ≡ true
header-numbers = header_read-numbers

pub row-call-numbers : (w r : ℕ) (s m : List ℕ) → any (eqb (image_row w r s m).answer.number) image_row_numbers ≡ true
row-call-numbers = image_row-numbers

-- "A refused call gives its number, zero for every count and value, and leaves the lent memory as found"
pub header-refused-keeps : (s m : List ℕ) → ((header_read s m).answer.number ≡ 0 → ⊥)
    → Kept (no_image (header_read s m).answer.number) m (header_read s m)
header-refused-keeps = header_read-kept

pub row-refused-keeps : (w r : ℕ) (s m : List ℕ) → ((image_row w r s m).answer.number ≡ 0 → ⊥)
    → Kept (refusal (image_row w r s m).answer.number) m (image_row w r s m)
row-refused-keeps = image_row-kept

-- "A done call writes only the pixels, words or bytes that it counts"
pub header-writes-record : (s m : List ℕ) → Within (header_read s m).answer.count m (header_read s m)
header-writes-record = header_read-within

pub row-writes-record : (w r : ℕ) (s m : List ℕ) → Within (image_row w r s m).answer.count m (image_row w r s m)
row-writes-record = image_row-within
