-- What the header's functions answer each other. Definitions only. Assumes nothing.
use Rattle.std.specs.Prelude.{ℕ, Result, Ok, Err, ◌≤◌, ◌≡◌, Bool, ◌&&◌, List, [], length, get_or}
use Rattle.answer.specs.Outcome.{Outcome, outcome, writes, refuse_if, unless, lent, room_number}
use Rattle.answer.specs.declared.refusal.Refusal.{Refusal}
use Rattle.answer.specs.Refusal.{refusal_number}
use Rattle.row_format.specs.Lists.{any}
use Rattle.text.specs.Text.{ascii}
use Rattle.fits_format.specs.Card.{is_true}
use Rattle.fits_format.specs.declared.ImageHeader.{ImageHeader}
use Rattle.fits_format.specs.Header.{no_image, header_cards, card_integer, axis1, axis2, is_number, end_card, plain_table_record, header_clauses}
use Rattle.fits_reader.specs.declared.header.Image.{Image}
use Rattle.fits_reader.specs.Clipped.{clipped}

-- the first three cards are SIMPLE T, BITPIX 16 and NAXIS 2
abbrev pub is_image : List ℕ → Bool
is_image s =
    is_true (ascii "SIMPLE  ") (get_or (header_cards s) 0 [])
    && (is_number 16 (card_integer "BITPIX  " 1 s) && is_number 2 (card_integer "NAXIS   " 2 s))

-- 17 where one of its clauses is given
abbrev pub unfit_number : List ℕ → ℕ
unfit_number s = refuse_if (any (λ (b : Bool). b) (header_clauses s)) 17

-- what was read of a header of five cards or more: the axes, clipped, and END's place
pub record CardsRead (s : List ℕ) (w r e : ℕ) : Type 0 where
  pub five : 5 ≤ length (header_cards s)
  pub width : w ≡ clipped (axis1 s)
  pub rows : r ≡ clipped (axis2 s)
  pub end : e ≡ end_card s

-- the table's record at the front of the memory, or 5 where it has no room there
unfoldable pub table_written : List ℕ → Outcome ℕ
table_written m =
    unless (room_number (lent (length m)) (length plain_table_record)) (λ e. outcome e m) (writes 0 plain_table_record m)

-- what the header's functions give, as C has it
abbrev pub as_header : Result Image Refusal → ImageHeader
as_header (Ok i) = record { number = 0; width = i.width; rows = i.rows; start = i.start; count = 2078 }
as_header (Err e) = no_image (refusal_number e)
