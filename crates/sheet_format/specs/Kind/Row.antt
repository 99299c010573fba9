-- Document 01: what the row kinds share: their fields, their place, and the pixels that the record writer is given.
-- Assumes nothing.
use Rattle.std.specs.Prelude.{ℕ, List, ◌++◌, length, drop, ltb, eqb}
use Rattle.bitstream.specs.Bits.{halves_of}
use Rattle.answer.specs.Outcome.{◌or_else◌, refuse_if}
use Rattle.sheet_format.specs.Context.{Heading, Context}
use Rattle.sheet_format.specs.Fields.{two_bytes, two_at}
pub mod Laws

-- "row number (2 bytes), pixel count (2)", and then the packed words or the pixels
abbrev pub row_heading : List ℕ → Heading
row_heading b = record { row = two_at 0 b }

abbrev pub pixel_count : List ℕ → ℕ
pixel_count b = two_at 2 b

abbrev pub row_content : List ℕ → List ℕ
row_content b = drop 4 b

-- "place (16)": a row comes after the table, "Row numbers rise strictly", and none is above 65535, which two bytes hold: of a
-- record that is read this is always so, in writing it is asked
abbrev pub no_table : Context → ℕ
no_table c = refuse_if (eqb (length c.tables) 0) 16

unfoldable pub row_place : Context → Heading → ℕ
row_place c h = no_table c or_else refuse_if (ltb h.row c.least) 16 or_else refuse_if (ltb 65535 h.row) 16

-- ---- in writing; an incomplete pixel at the end counts for nothing
abbrev pub given_pixels : List ℕ → List ℕ
given_pixels x = halves_of x

abbrev pub row_body : Heading → List ℕ → List ℕ → List ℕ
row_body h x w = two_bytes h.row ++ (two_bytes (length (given_pixels x)) ++ w)
