-- Document 01, "A sheet": numbers in a record, and bodies that are too short or not whole words. Assumes nothing.
use Rattle.std.specs.Prelude.{ℕ, ◌%◌, not, List, length, take, drop, ltb, eqb}
use Rattle.bitstream.specs.Bits.{digits, number_of, bytes_of}
use Rattle.answer.specs.Outcome.{refuse_if}
pub mod Laws

-- "All numbers are little-endian"
abbrev pub two_bytes : ℕ → List ℕ
two_bytes v = bytes_of 2 (digits 16 v)

abbrev pub four_bytes : ℕ → List ℕ
four_bytes v = bytes_of 4 (digits 32 v)

-- the two bytes at a place
abbrev pub two_at : ℕ → List ℕ → ℕ
two_at at b = number_of (take 2 (drop at b))

-- "fixed fields (row number, counts; a table has none) missing or kinds 1 and 2 not whole words"
abbrev pub shorter_than : ℕ → List ℕ → ℕ
shorter_than n b = refuse_if (ltb (length b) n) 14

abbrev pub not_words : List ℕ → ℕ
not_words b = refuse_if (not (eqb (length b % 4) 0)) 14
