-- The header of a binary PGM, as it is written and as it is read: `P5`, then the samples of a row, the rows and the largest value in
-- decimal, each after one separator or more, then one blank. s is the bytes of a file. Definitions only; their laws are in Header/.
-- Assumes nothing.
use Rattle.std.specs.Prelude.{ℕ, suc, Result, Ok, Err, ◌+◌, ◌≤◌, Bool, true, false, cond, not, List, [], ◌∷◌, ◌++◌, length, take, drop, get_or, ltb, eqb}
use Rattle.answer.specs.Outcome.{◌or_else◌, refuse_if, unless}
use Rattle.answer.specs.declared.refusal.Refusal.{Refusal}
use Rattle.answer.specs.Refusal.{refusal_number}
use Rattle.text.specs.Text.{ascii, fields}
use Rattle.text.specs.Number.{is_digit}
use Rattle.text.specs.Same.{same_bytes}
use Rattle.fits_format.specs.Card.{digits_value}
use Rattle.pgm_format.specs.declared.PgmHeader.{PgmHeader}
pub mod Laws
pub mod Back
pub mod Accepted
pub mod Alike

-- ---- as it is written: `P5`, `W R` and `4095`, a line each
unfoldable pub pgm_front : ℕ → ℕ → List ℕ
pgm_front w r = fields (ascii "P5\n") w (ascii " ") r ++ ascii "\n4095\n"

-- ---- separators: blanks, and comments from `#` to the end of the line
-- a tab, a newline, a vertical tab, a form feed, a carriage return, a blank: 9 to 13, and 32
unfoldable pub is_blank : ℕ → Bool
is_blank b = cond (eqb b 32) true (cond (ltb b 9) false (ltb b 14))

unfoldable pub ends_line : ℕ → Bool
ends_line b = cond (eqb b 10) true (eqb b 13)

-- whether a byte goes on with separators, and whether a comment is open behind it; c says whether one is before it. `#` is 35
unfoldable pub separates : Bool → ℕ → Bool
separates c b = cond c true (cond (eqb b 35) true (is_blank b))

unfoldable pub comments : Bool → ℕ → Bool
comments c b = cond c (not (ends_line b)) (eqb b 35)

-- how many bytes at the front are separators
unfoldable pub gap_from : Bool → List ℕ → ℕ
gap_from c [] = 0
gap_from c (b ∷ s) = cond (separates c b) (suc (gap_from (comments c b) s)) 0

abbrev pub gap_bytes : List ℕ → ℕ
gap_bytes s = gap_from false s

-- ---- a number after separators
-- how many bytes at the front are digits
unfoldable pub digit_bytes : List ℕ → ℕ
digit_bytes [] = 0
digit_bytes (b ∷ s) = cond (is_digit b) (suc (digit_bytes s)) 0

-- their number, however many there are; 0 where no separator is there or no digit: a header has no use for 0
unfoldable pub field_value : List ℕ → ℕ
field_value s =
    let g : ℕ = gap_bytes s in
    cond (eqb g 0) 0 (digits_value 0 (take (digit_bytes (drop g s)) (drop g s)))

unfoldable pub field_bytes : List ℕ → ℕ
field_bytes s = let g : ℕ = gap_bytes s in g + digit_bytes (drop g s)

-- ---- the three of them, at their places
abbrev pub field_at : ℕ → List ℕ → ℕ
field_at at s = field_value (drop at s)

abbrev pub after_field : ℕ → List ℕ → ℕ
after_field at s = at + field_bytes (drop at s)

abbrev pub rows_place : List ℕ → ℕ
rows_place s = after_field 2 s

abbrev pub largest_place : List ℕ → ℕ
largest_place s = after_field (rows_place s) s

-- the blank after them
abbrev pub blank_place : List ℕ → ℕ
blank_place s = after_field (largest_place s) s

-- ---- what is refused: 17 for what is no header of such a picture, then 11 for more than a sheet holds
-- by the three numbers and whether the blank is there
unfoldable pub fields_number : ℕ → ℕ → ℕ → Bool → ℕ
fields_number w r largest blank =
    refuse_if (eqb w 0) 17
    or_else refuse_if (eqb r 0) 17
    or_else refuse_if (not (eqb largest 4095)) 17
    or_else refuse_if (not blank) 17
    or_else refuse_if (ltb 4096 w) 11
    or_else refuse_if (ltb 65536 r) 11

unfoldable pub front_number : List ℕ → ℕ
front_number s =
    refuse_if (not (same_bytes (take 2 s) (ascii "P5"))) 17
    or_else fields_number (field_at 2 s) (field_at (rows_place s) s) (field_at (largest_place s) s) (is_blank (get_or s (blank_place s) 0))

-- what reading a header comes to: the number, and where it is 0 what the header says; a refusal has 0 for every value
pub record PgmRead : Type 0 where
  pub number : ℕ
  pub width : ℕ
  pub rows : ℕ
  pub start : ℕ

abbrev pub no_pgm : ℕ → PgmRead
no_pgm e = record { number = e; width = 0; rows = 0; start = 0 }

abbrev pub pgm_of : List ℕ → PgmRead
pgm_of s = record { number = 0; width = field_at 2 s; rows = field_at (rows_place s) s; start = blank_place s + 1 }

-- of bytes that the header is to end in
unfoldable pub front_read : List ℕ → PgmRead
front_read s = unless (front_number s) no_pgm (pgm_of s)

-- of a file: the header ends in its first 65536 bytes
unfoldable pub pgm_header : List ℕ → PgmRead
pgm_header s = front_read (take 65536 s)

-- what the call gives, as that
abbrev pub as_pgm : Result PgmHeader Refusal → PgmRead
as_pgm (Ok h) = record { number = 0; width = h.width; rows = h.rows; start = h.start }
as_pgm (Err e) = no_pgm (refusal_number e)

-- ---- what is to be true of a header that is accepted
pub record PgmAccepted (s : List ℕ) (h : PgmRead) : Type 0 where
  pub width-least : 1 ≤ h.width
  pub width-most : h.width ≤ 4096
  pub rows-least : 1 ≤ h.rows
  pub rows-most : h.rows ≤ 65536
  pub start-within : h.start ≤ length s
  pub start-most : h.start ≤ 65536
