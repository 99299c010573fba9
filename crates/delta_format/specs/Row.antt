-- Source document 004, "Delta Compressed Array Form", as document 02's ticket 7 reads it: the row that elements of the three arrays
-- are read as. max is MAX; ds, vs and rs are what is not read yet of DATA, VALUE and REPEAT, left is how many elements the row still
-- wants. No width is named: all nine combinations are this row. Definitions only; their laws are in proofs/Row/. Assumes nothing.
use Rattle.std.specs.Prelude.{ℕ, zero, suc, ◌-◌, cond, ◌||◌, List, [], ◌∷◌, ◌++◌, map, length, take, drop, replicate, ltb, eqb, ℤ, pos, negsuc, ◌+ℤ◌, ◌-ℤ◌}
use Rattle.answer.specs.Outcome.{◌or_else◌, refuse_if, unless}
use Rattle.delta_format.specs.Numbers.{in32}

-- an element of a row
pub data Element : Type 0 where
  good : ℤ → Element
  bad : Element

-- ---- what an element of DATA is
pub data Flag : Type 0 where
  -- MAX: "the next element of the uncompressed array is good, but could not be expressed as a difference"
  full : Flag
  -- MAX-1: "the next element of the uncompressed array is good and is exactly equal to the following (N-1) elements"
  same : Flag
  -- MAX-2: "the next element of the uncompressed array is bad, as are the following (N-1) elements"
  bad-run : Flag
  -- MAX-3: "the next element of the uncompressed array is bad, but the following element is good"
  bad-one : Flag
  -- MAX-4: "the next N elements of the uncompressed array are good but cannot be expressed as differences"
  fulls : Flag

pub data Meaning : Type 0 where
  flag : Flag → Meaning
  -- "Any other value is taken to be (NEXT - PREVIOUS)"
  difference : Meaning

-- what lies k below MAX
abbrev pub down_from_max : ℕ → Meaning
down_from_max zero = flag full
down_from_max (suc zero) = flag same
down_from_max (suc (suc zero)) = flag bad-run
down_from_max (suc (suc (suc zero))) = flag bad-one
down_from_max (suc (suc (suc (suc zero)))) = flag fulls
down_from_max (suc (suc (suc (suc (suc k))))) = difference

-- (nothing is above MAX)
abbrev pub meaning_at : ℤ → Meaning
meaning_at (pos k) = down_from_max k
meaning_at (negsuc k) = difference

abbrev pub meaning_of : ℤ → ℤ → Meaning
meaning_of max d = meaning_at (max -ℤ d)

-- ---- what it gives: elements of the row, and what the next difference is taken from
-- "the previous uncompressed value": a row begins with none
pub data Previous : Type 0 where
  none : Previous
  value : ℤ → Previous

-- the last of some values
abbrev pub last_from : Previous → List ℤ → Previous
last_from p [] = p
last_from p (v ∷ vs) = last_from (value v) vs

pub data Part : Type 0 where
  fault : ℕ → Part
  gives : List Element → Previous → List ℤ → List ℤ → Part

-- ---- flags
-- "26 a count below 1": 0 stands for all of these
abbrev pub count_of : ℤ → ℕ
count_of (pos n) = n
count_of (negsuc n) = 0

-- "The value of N is stored in the next element of the REPEAT array"; 25 where that array has none
abbrev pub next_count : List ℤ → (ℕ → List ℤ → Part) → Part
next_count [] k = fault 25
next_count (c ∷ rs) k = k (count_of c) rs

-- the count of a flag; MAX and MAX-3 are of one element and take none
abbrev pub with_count : Flag → List ℤ → (ℕ → List ℤ → Part) → Part
with_count full rs k = k 1 rs
with_count same rs k = next_count rs k
with_count bad-run rs k = next_count rs k
with_count bad-one rs k = k 1 rs
with_count fulls rs k = next_count rs k

-- how many values a flag of count c takes from VALUE. "The full uncompressed value of the next good value following the bad values is
-- stored in the next element of the VALUE array", but bad elements "that end" their row take "no such value (house)"
abbrev pub values_for : Flag → ℕ → ℕ → ℕ
values_for full left c = 1
values_for same left c = 1
values_for bad-run left c = cond (eqb c left) 0 1
values_for bad-one left c = cond (eqb c left) 0 1
values_for fulls left c = c

-- c times the value that was taken
abbrev pub repeated : ℕ → List ℤ → List Element
repeated c [] = []
repeated c (v ∷ vs) = replicate c (good v)

-- the elements of a flag of count c that took the values us
abbrev pub elements_for : Flag → ℕ → List ℤ → List Element
elements_for full c us = map good us
elements_for same c us = repeated c us
elements_for bad-run c us = replicate c bad ++ map good us
elements_for bad-one c us = replicate c bad ++ map good us
elements_for fulls c us = map good us

-- "25 a place or run leaves its array or row, 26 a count below 1", in this order; n values are wanted
abbrev pub flag_number : ℕ → ℕ → ℕ → List ℤ → ℕ
flag_number left c n vs = refuse_if (ltb left c || ltb (length vs) n) 25 or_else refuse_if (eqb c 0) 26

-- the flag f with n values
abbrev pub flag_gives : Flag → Previous → ℕ → ℕ → ℕ → List ℤ → List ℤ → Part
flag_gives f p left c n vs rs =
    unless (flag_number left c n vs) fault (gives (elements_for f c (take n vs)) (last_from p (take n vs)) (drop n vs) rs)

abbrev pub flag_part : Flag → Previous → ℕ → List ℤ → List ℤ → Part
flag_part f p left vs rs = with_count f rs λ c ts. flag_gives f p left c (values_for f left c) vs ts

-- ---- differences: "27 the data element that starts a row is no flag", "28 a sum leaves 32 bits"
abbrev pub summed : ℤ → List ℤ → List ℤ → Part
summed v vs rs = cond (in32 v) (gives (good v ∷ []) (value v) vs rs) (fault 28)

abbrev pub difference_part : Previous → ℤ → List ℤ → List ℤ → Part
difference_part none d vs rs = fault 27
difference_part (value p) d vs rs = summed (p +ℤ d) vs rs

abbrev pub part_by : Meaning → Previous → ℕ → ℤ → List ℤ → List ℤ → Part
part_by (flag f) p left d vs rs = flag_part f p left vs rs
part_by difference p left d vs rs = difference_part p d vs rs

unfoldable pub part_of : ℤ → Previous → ℕ → ℤ → List ℤ → List ℤ → Part
part_of max p left d vs rs = part_by (meaning_of max d) p left d vs rs

-- ---- a row
-- its elements and what is left of the arrays, or the number that refuses it
pub data RowReading : Type 0 where
  stops : ℕ → RowReading
  reads : List Element → List ℤ → List ℤ → List ℤ → RowReading

abbrev pub joined_to : List Element → RowReading → RowReading
joined_to es (stops e) = stops e
joined_to es (reads fs ds vs rs) = reads (es ++ fs) ds vs rs

abbrev pub and_then : Part → (List Element → Previous → List ℤ → List ℤ → RowReading) → RowReading
and_then (fault e) k = stops e
and_then (gives es p vs rs) k = joined_to es (k es p vs rs)

-- "earliest element first"; 25 where DATA ends before the row does
unfoldable pub row_from : ℤ → Previous → ℕ → List ℤ → List ℤ → List ℤ → RowReading
row_from max p left [] vs rs = cond (eqb left 0) (reads [] [] vs rs) (stops 25)
row_from max p left (d ∷ ds) vs rs =
    cond (eqb left 0) (reads [] (d ∷ ds) vs rs)
    (and_then (part_of max p left d vs rs) λ es q ws ts. row_from max q (left - length es) ds ws ts)
