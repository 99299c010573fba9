-- Document 02, ticket 1, "Read the header": which headers are refused and by which number, and what an accepted one says of
-- its image. s is the bytes of a file. Definitions only. Assumes nothing.
use Rattle.std.specs.Prelude.{ℕ, zero, suc, ◌+◌, ◌*◌, ◌/◌, ◌%◌, ◌≤◌, ◌<◌, ◌≡◌, Bool, true, false, cond, not, List, [], ◌∷◌, length, take, drop, get_or, ltb, eqb, pos, negsuc}
use Prim.Native.String.{String}
use Rattle.answer.specs.Outcome.{Outcome, outcome, writes, ◌or_else◌, refuse_if, unless, lent, room_number}
use Rattle.row_format.specs.Lists.{any}
use Rattle.row_format.specs.Plain.{plain_bytes}
use Rattle.text.specs.Text.{ascii}
use Rattle.sheet_format.specs.Context.{no_heading, new_sheet}
use Rattle.sheet_format.specs.Writing.{record_for}
use Rattle.fits_format.specs.declared.ImageHeader.{ImageHeader}
use Rattle.fits_format.specs.Card.{has_keyword, is_true, FieldValue, no_integer, is_integer, integer_of}
pub mod Laws
pub mod Clauses

-- ---- the cards of a header
-- the first n whole cards of some bytes, or as many as there are; an incomplete one at the end counts for nothing
unfoldable pub cards_of : ℕ → List ℕ → List (List ℕ)
cards_of zero s = []
cards_of (suc n) s = cond (ltb (length s) 80) [] (take 80 s ∷ cards_of n (drop 80 s))

-- "in ten blocks": a block is 2880 bytes, 36 cards
abbrev pub header_cards : List ℕ → List (List ℕ)
header_cards s = cards_of 360 s

-- those before the first END, or all
unfoldable pub before_end : List (List ℕ) → List (List ℕ)
before_end [] = []
before_end (c ∷ cs) = cond (has_keyword (ascii "END     ") c) [] (c ∷ before_end cs)

-- the integer that card i, counted from 0, has by its keyword
unfoldable pub card_integer : String → ℕ → List ℕ → FieldValue
card_integer k i s = integer_of (ascii k) (get_or (header_cards s) i [])

-- "NAXIS1": the pixels of a row; "NAXIS2": the rows
abbrev pub axis1 : List ℕ → FieldValue
axis1 s = card_integer "NAXIS1  " 3 s

abbrev pub axis2 : List ℕ → FieldValue
axis2 s = card_integer "NAXIS2  " 4 s

-- ---- the ticket's words on a value
abbrev pub lacking : FieldValue → Bool
lacking no_integer = true
lacking (is_integer z) = false

abbrev pub is_number : ℕ → FieldValue → Bool
is_number n no_integer = false
is_number n (is_integer (pos k)) = eqb k n
is_number n (is_integer (negsuc k)) = false

abbrev pub below_one : FieldValue → Bool
below_one no_integer = false
below_one (is_integer (pos k)) = ltb k 1
below_one (is_integer (negsuc k)) = true

abbrev pub above_most : FieldValue → Bool
above_most no_integer = false
above_most (is_integer (pos k)) = ltb 4096 k
above_most (is_integer (negsuc k)) = false

-- the length of an axis that is at least 1
abbrev pub axis_length : FieldValue → ℕ
axis_length no_integer = 0
axis_length (is_integer (pos k)) = k
axis_length (is_integer (negsuc k)) = 0

-- some card has the keyword
abbrev pub stands : String → List (List ℕ) → Bool
stands k cs = any (has_keyword (ascii k)) cs

-- ---- "17 exactly when the first five cards aren't SIMPLE T, BITPIX 16, NAXIS 2, NAXIS1, NAXIS2 in fixed format, an axis is
-- below 1, a BSCALE or BZERO card stands, or no END comes in ten blocks"
unfoldable pub header_clauses : List ℕ → List Bool
header_clauses s =
    not (is_true (ascii "SIMPLE  ") (get_or (header_cards s) 0 []))
    ∷ not (is_number 16 (card_integer "BITPIX  " 1 s))
    ∷ not (is_number 2 (card_integer "NAXIS   " 2 s))
    ∷ lacking (axis1 s)
    ∷ lacking (axis2 s)
    ∷ below_one (axis1 s)
    ∷ below_one (axis2 s)
    ∷ stands "BSCALE  " (before_end (header_cards s))
    ∷ stands "BZERO   " (before_end (header_cards s))
    ∷ not (stands "END     " (header_cards s))
    ∷ []

-- "then 11 for an axis above 4096"
unfoldable pub header_number : List ℕ → ℕ
header_number s =
    refuse_if (any (λ (b : Bool). b) (header_clauses s)) 17
    or_else refuse_if (above_most (axis1 s)) 11
    or_else refuse_if (above_most (axis2 s)) 11

-- the place of END's card, counted in cards from 0
unfoldable pub end_card : List ℕ → ℕ
end_card s = length (before_end (header_cards s))

-- the image starts with the block after END's
abbrev pub image_start : List ℕ → ℕ
image_start s = 2880 * (end_card s / 36 + 1)

-- the bytes that a header is judged by: to the image, or ten blocks where no END comes in them. No call answers it; that no
-- more of a file need be read is a theorem
unfoldable pub header_span : List ℕ → ℕ
header_span s = cond (stands "END     " (header_cards s)) (image_start s) 28800

-- ---- the call
-- "packed under the plain table, whose record is written once the header is accepted"
unfoldable pub plain_table_record : List ℕ
plain_table_record = record_for 1 no_heading new_sheet plain_bytes

abbrev pub no_image : ℕ → ImageHeader
no_image e = record { number = e; width = 0; rows = 0; start = 0; count = 0 }

abbrev pub image_of : List ℕ → ImageHeader
image_of s =
    record {
      number = 0;
      width = axis_length (axis1 s);
      rows = axis_length (axis2 s);
      start = image_start s;
      count = length plain_table_record;
    }

-- the numbers that it may answer
abbrev pub header_numbers : List ℕ
header_numbers = 0 ∷ 17 ∷ 11 ∷ 5 ∷ []

-- "then 5 for the table's record"
unfoldable pub header_read : List ℕ → List ℕ → Outcome ImageHeader
header_read s m =
    unless (header_number s or_else room_number (lent (length m)) (length plain_table_record)) (λ e. outcome (no_image e) m)
    (writes (image_of s) plain_table_record m)

-- ---- what is to be true of it
-- what an accepted header says of its image: the axes, and where it starts
pub record HeaderAccepted (s : List ℕ) (h : ImageHeader) : Type 0 where
  pub width : axis1 s ≡ is_integer (pos h.width)
  pub rows : axis2 s ≡ is_integer (pos h.rows)
  pub width-least : 1 ≤ h.width
  pub width-most : h.width ≤ 4096
  pub rows-least : 1 ≤ h.rows
  pub rows-most : h.rows ≤ 4096
  -- END's card is there, and whole
  pub end-stands : stands "END     " (header_cards s) ≡ true
  pub end_whole : 80 * (end_card s + 1) ≤ length s
  -- the image starts with the next block, past END's card
  pub start-block : h.start % 2880 ≡ 0
  pub start-least : 2880 ≤ h.start
  pub start-most : h.start ≤ 28800
  pub start-past : 80 * (end_card s + 1) ≤ h.start
  pub start-next : h.start < 80 * (end_card s + 1) + 2880
  -- the table's record is written
  pub count : h.count ≡ 2078
