-- Document 02's ticket 7, "Read rows of signed numbers held in 8, 16 or 32 bits .. into 32-bit signed values and a mark for bad
-- elements": what the call comes to. a is the three arrays, at the three places, x and y are the memory that is lent for values
-- and for marks. Definitions only; their laws are in Calls/. Assumes nothing.
use Rattle.std.specs.Prelude.{ℕ, ◌/◌, not, ◌||◌, List, [], ◌∷◌, ◌++◌, map, length, drop, eqb, ℤ, pos}
use Rattle.answer.specs.declared.LongAnswer.{LongAnswer}
use Rattle.answer.specs.Outcome.{◌or_else◌, refuse_if, unless, lent, room_number}
use Rattle.bitstream.specs.Bits.{digits, bytes_of}
use Rattle.delta_format.specs.declared.RowPlaces.{RowPlaces}
use Rattle.delta_format.specs.Numbers.{max_of, elements_of, bits_for}
use Rattle.delta_format.specs.Row.{Element, good, bad, none, RowReading, stops, reads, row_from}
pub mod Laws

-- the three arrays as they are given: bytes, and the bits of an element; "signed 32-bit counts"
pub record Arrays : Type 0 where
  pub data_bits : ℕ
  pub data_bytes : List ℕ
  pub value_bits : ℕ
  pub value_bytes : List ℕ
  pub repeat_bytes : List ℕ

-- the row of n elements that begins at these places. An array that ends before its place has no next element
unfoldable pub delta_row_at : ℕ → Arrays → RowPlaces → RowReading
delta_row_at n a at =
    row_from (max_of a.data_bits) none n (drop at.«data».0 (elements_of a.data_bits a.data_bytes))
    (drop at.value.0 (elements_of a.value_bits a.value_bytes))
    (drop at.repeat.0 (elements_of 32 a.repeat_bytes))

-- ---- what is written: "32-bit signed values and a mark for bad elements, whose value is 0"
abbrev pub value_of : Element → ℤ
value_of (good v) = v
value_of bad = pos 0

abbrev pub mark_of : Element → ℕ
mark_of (good v) = 0
mark_of bad = 1

abbrev pub element_bytes : Element → List ℕ
element_bytes e = bytes_of 4 (digits 32 (bits_for 32 (value_of e)))

abbrev pub values_bytes : List Element → List ℕ
values_bytes [] = []
values_bytes (e ∷ es) = element_bytes e ++ values_bytes es

-- ---- the call
-- its answer, and both memories as it leaves them
pub record DeltaOutcome : Type 0 where
  pub answer : LongAnswer
  pub row : List ℕ
  pub marks : List ℕ

abbrev pub delta_outcome : LongAnswer → List ℕ → List ℕ → DeltaOutcome
delta_outcome a x y = record { answer = a; row = x; marks = y }

-- "output untouched"
abbrev pub delta_refused : ℕ → List ℕ → List ℕ → DeltaOutcome
delta_refused e x y = delta_outcome (record { number = e; count = 0 }) x y

abbrev pub delta_written : List Element → List ℕ → List ℕ → DeltaOutcome
delta_written es x y =
    delta_outcome (record { number = 0; count = length es }) (values_bytes es ++ drop (length (values_bytes es)) x)
    (map mark_of es ++ drop (length es) y)

abbrev pub delta_left : List ℕ → List ℕ → RowReading → DeltaOutcome
delta_left x y (stops e) = delta_refused e x y
delta_left x y (reads es ds vs rs) = delta_written es x y

-- "held in 8, 16 or 32 bits"; 14 for another width
unfoldable pub width_number : ℕ → ℕ
width_number w = refuse_if (not (eqb w 8 || (eqb w 16 || eqb w 32))) 14

-- 14, then 5: four bytes a value and one a mark
unfoldable pub row_number : ℕ → Arrays → List ℕ → List ℕ → ℕ
row_number n a x y =
    width_number a.data_bits or_else width_number a.value_bits or_else room_number (lent (length x / 4)) n
    or_else room_number (lent (length y)) n

unfoldable pub delta_row : ℕ → Arrays → RowPlaces → List ℕ → List ℕ → DeltaOutcome
delta_row n a at x y = unless (row_number n a x y) (λ e. delta_refused e x y) (delta_left x y (delta_row_at n a at))
