-- Document 02, ticket 1, "turn each image row into a row of a sheet": the pixels of a row, and what its call answers. w is the
-- image's width, r the row's number and s the image's bytes from this row on. Definitions only. Assumes nothing.
use Rattle.std.specs.Prelude.{ℕ, zero, suc, ◌+◌, ◌-◌, ◌*◌, Bool, true, cond, List, [], ◌∷◌, map, length, drop, get_or, ltb, eqb, ℤ, pos, negsuc}
use Rattle.answer.specs.declared.Answer.{Answer}
use Rattle.answer.specs.Outcome.{Outcome, refused, wrote, ◌or_else◌, refuse_if, unless, lent, room_number}
use Rattle.row_format.specs.Lists.{any}
use Rattle.row_format.specs.Plain.{plain_bytes}
use Rattle.row_format.specs.Row.{pixel_bytes}
use Rattle.sheet_format.specs.Context.{Context}
use Rattle.sheet_format.specs.Writing.{record_for}
pub mod Laws
pub mod Call
pub mod Room

-- ---- "big-endian signed pixels": two bytes, the higher one first, in two's complement
unfoldable pub twos_complement : ℕ → ℤ
twos_complement v = cond (ltb v 32768) (pos v) (negsuc (65535 - v))

-- the 16-bit number at a place, and n of them from the front of some bytes; bytes past the end count as 0
unfoldable pub number_at : ℕ → List ℕ → ℕ
number_at at s = 256 * get_or s at 0 + get_or s (at + 1) 0

unfoldable pub big_endian : ℕ → List ℕ → List ℕ
big_endian zero s = []
big_endian (suc n) s = number_at 0 s ∷ big_endian n (drop 2 s)

abbrev pub signed_pixels : ℕ → List ℕ → List ℤ
signed_pixels w s = map twos_complement (big_endian w s)

-- ---- "a pixel below 0 or above 4095 refused with 4, since masking would invent a height"
abbrev pub out_of_range : ℤ → Bool
out_of_range (pos k) = ltb 4095 k
out_of_range (negsuc k) = true

abbrev pub height_of : ℤ → ℕ
height_of (pos k) = k
height_of (negsuc k) = 0

abbrev pub row_heights : ℕ → List ℕ → List ℕ
row_heights w s = map height_of (signed_pixels w s)

-- ---- "Rows are numbered from 0 and packed under the plain table"
-- what the sheet holds before row r: the plain table, and the rows before
abbrev pub image_context : ℕ → Context
image_context r = record { tables = plain_bytes ∷ []; least = r }

unfoldable pub row_record : ℕ → ℕ → List ℕ → List ℕ
row_record w r s = record_for 2 (record { row = r }) (image_context r) (pixel_bytes (row_heights w s))

-- ---- the call: "at each row, 18 if its bytes are cut short, then 4, then 5"; before these, what no accepted header has: a
-- width of 0, refused as an axis below 1, and a width or a row past 4096, as an axis above it. n is how many bytes there are
unfoldable pub before_pixels : ℕ → ℕ → ℕ → ℕ
before_pixels w r n =
    refuse_if (eqb w 0) 17
    or_else refuse_if (ltb 4096 w) 11
    or_else refuse_if (ltb 4095 r) 11
    or_else refuse_if (ltb n (2 * w)) 18

unfoldable pub image_row_number : ℕ → ℕ → List ℕ → ℕ → ℕ
image_row_number w r s room_bytes =
    before_pixels w r (length s)
    or_else refuse_if (any out_of_range (signed_pixels w s)) 4
    or_else room_number (lent room_bytes) (length (row_record w r s))

-- the numbers that it may answer
abbrev pub image_row_numbers : List ℕ
image_row_numbers = 0 ∷ 17 ∷ 11 ∷ 18 ∷ 4 ∷ 5 ∷ []

unfoldable pub image_row : ℕ → ℕ → List ℕ → List ℕ → Outcome Answer
image_row w r s m =
    unless (image_row_number w r s (length m)) (λ e. refused e m) (wrote (length (row_record w r s)) (row_record w r s) m)
