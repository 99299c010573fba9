-- The theorems about height models in the DELTA form, in the words of source document 004 and of document 02's ticket 7; the files below
-- prove them. max is MAX, of any width: the theorems about rows name no width, and each of the nine combinations is an instance of
-- them. p is the value before an element, ds, vs and rs are elements of DATA, VALUE and REPEAT. n is a row's length, a the arrays, at
-- the three places, x and y the memory lent for values and for marks. Assumes nothing.
use Rattle.std.specs.Prelude.{ℕ, suc, ◌+◌, ◌*◌, ◌/◌, ◌≤◌, ◌<◌, ◌≡◌, refl, true, false, ◌↔◌, ◌⊎◌, List, [], ◌∷◌, ◌++◌, map, length, take, drop, replicate, eqb, ℤ, pos, negsuc, ◌+ℤ◌, ◌-ℤ◌}
use Rattle.std.proofs.Common.{arith, sym, ap, ◌∙◌, subst, inl, inr, length-append}
use Rattle.std.proofs.lemmas.List.{length-replicate, length-map}
use Rattle.bitstream.specs.Bits.{cut, flat, digits, num_of}
use Rattle.row_format.specs.Lists.{any}
use Rattle.delta_format.specs.declared.RowPlaces.{RowPlaces}
use Rattle.delta_format.specs.Numbers.{max_of, signed_number, elements_of, bits_for, in32}
use Rattle.delta_format.specs.Row.{
  Element,
  good,
  bad,
  Flag,
  full,
  same,
  bad-run,
  bad-one,
  fulls,
  flag,
  difference,
  meaning_of,
  Previous,
  none,
  value,
  last_from,
  count_of,
  stops,
  reads,
  joined_to,
  row_from,
}
use Rattle.delta_format.specs.Grammar.{
  below_max,
  IsFlag,
  NoFlag,
  full-value,
  same-values,
  bad-values,
  bad-end,
  bad-value,
  bad_last,
  full-values,
  step,
  RowCode,
  RowBegins,
  HasCount,
  full-one,
  bad-only,
  CountedFlag,
  no-count,
  same_count,
  bad-count,
  full-count,
  no_flag,
  leaves,
  below_one_lem,
  sum-out,
  RowFault,
  data-ends,
  faulty,
}
use Rattle.delta_format.specs.Calls.{Arrays, delta_row_at, mark_of, value_of, delta_refused, delta_written, delta_left, delta_row}
use Rattle.delta_format.proofs.Grammar.Exact.{code_row, fault-row}
use Rows as Rows
use Call.{IsWidth, DoneRow, Past}
use Call as Call
use Values as Values
pub mod Rows
pub mod Call
pub mod Values

-- ---- the five flags
-- "The document's five flags, MAX down to MAX-4": an element is the flag f exactly where it is `below_max f` less than MAX,
pub five-flags : (max d : ℤ) (f : Flag) → (meaning_of max d ≡ flag f) ↔ (d ≡ max -ℤ pos (below_max f))
five-flags = Rows.flag-exactly

-- and "Any other value", the least one too, is a difference
pub any-other : (max d : ℤ) → (meaning_of max d ≡ difference) ↔ NoFlag max d
any-other = Rows.difference-exactly

-- ---- rows, exactly
-- A row is done exactly where the arrays begin with elements that stand for it, one after the other; what follows them is left, and
-- none of it is looked at
pub done-exactly : (max : ℤ) (p : Previous) (n : ℕ) (ds vs rs : List ℤ) (es : List Element) (ds' vs' rs' : List ℤ)
    → (row_from max p n ds vs rs ≡ reads es ds' vs' rs') ↔ RowBegins max p n ds vs rs es ds' vs' rs'
done-exactly = Rows.done-is

-- Refusals: "25 .., 26 .., 27 .., 28 ..; earliest element first": exactly where the first element of DATA that stands for nothing has
-- that fault
pub refused-exactly : (max : ℤ) (p : Previous) (n : ℕ) (ds vs rs : List ℤ) (e : ℕ)
    → (row_from max p n ds vs rs ≡ stops e) ↔ RowFault max p n ds vs rs e
refused-exactly = Rows.refused-is

-- Every done row has n elements,
pub row-length : (max : ℤ) (p : Previous) (n : ℕ) (ds vs rs : List ℤ) (es : List Element) → RowCode max p n ds vs rs es → length es ≡ n
row-length max p n ds vs rs es = Rows.code-length

-- and what is not used of the arrays may be anything
pub rest-unread : (max : ℤ) (p : Previous) (n : ℕ) (ds vs rs : List ℤ) (es : List Element) → RowCode max p n ds vs rs es
    → (ds' vs' rs' : List ℤ) → row_from max p n (ds ++ ds') (vs ++ vs') (rs ++ rs') ≡ reads es ds' vs' rs'
rest-unread max p n ds vs rs es = code_row

-- Every element that is used lies inside its array: of the elements of an array from a place on, those that are used are there
pub used-inside : (all used rest : List ℤ) (at : ℕ) → drop at all ≡ used ++ rest → (used ≡ []) ⊎ (at + length used ≤ length all)
used-inside = Rows.used-in

-- ---- the document's sentences, one a flag; d is the flag, and the row goes on with the other elements
module _ (max : ℤ) (p : Previous) (n : ℕ) (d : ℤ) (ds vs rs : List ℤ) where
  -- "the full uncompressed value is stored in the next element of the VALUE array", and the next difference is taken from it
  pub full-sets-base : (v e : ℤ) → IsFlag max full d → NoFlag max e → in32 (v +ℤ e) ≡ true
      → row_from max p (1 + (1 + n)) (d ∷ e ∷ ds) (v ∷ vs) rs
      ≡ joined_to (good v ∷ []) (joined_to (good (v +ℤ e) ∷ []) (row_from max (value (v +ℤ e)) n ds vs rs))
  full-sets-base v e is other fits =
      Rows.part_then (1 + n) (full-value v is (omega arith)) (e ∷ ds) vs rs
      ∙ ap (joined_to (good v ∷ [])) (Rows.part_then n (step v other fits) ds vs rs)

  -- "exactly equal to the following (N-1) elements"
  pub run-of-a-value : (v : ℤ) (c : ℕ) → IsFlag max same d → 0 < c
      → row_from max p (c + n) (d ∷ ds) (v ∷ vs) (pos c ∷ rs) ≡ joined_to (replicate c (good v)) (row_from max (value v) n ds vs rs)
  run-of-a-value v c is some =
      let long : length (replicate c (good v)) ≡ c = length-replicate c (good v) in
      subst (λ (k : ℕ). row_from max p (k + n) (d ∷ ds) (v ∷ vs) (pos c ∷ rs) ≡ joined_to (replicate c (good v))
      (row_from max (value v) n ds vs rs))
      long (Rows.part_then n (same-values v c is some (omega (arith, long))) ds vs rs)

  -- "bad, as are the following (N-1) elements"; "The good value after a bad run is the next element and has no data element of its own"
  pub bad-run-then-good : (v : ℤ) (c : ℕ) → IsFlag max bad-run d → 0 < c
      → row_from max p (c + 1 + n) (d ∷ ds) (v ∷ vs) (pos c ∷ rs)
      ≡ joined_to (replicate c bad ++ (good v ∷ [])) (row_from max (value v) n ds vs rs)
  bad-run-then-good v c is some =
      let long : length (replicate c bad ++ (good v ∷ [])) ≡ c + 1 =
      length-append (replicate c bad) (good v ∷ []) ∙ ap (λ (k : ℕ). k + 1) (length-replicate c bad) in
      subst (λ (k : ℕ). row_from max p (k + n) (d ∷ ds) (v ∷ vs) (pos c ∷ rs)
      ≡ joined_to (replicate c bad ++ (good v ∷ [])) (row_from max (value v) n ds vs rs))
      long (Rows.part_then n (bad-values v c is some (omega (arith, long))) ds vs rs)

  -- "bad, but the following element is good"
  pub one-bad-then-good : (v : ℤ) → IsFlag max bad-one d
      → row_from max p (2 + n) (d ∷ ds) (v ∷ vs) rs ≡ joined_to (bad ∷ good v ∷ []) (row_from max (value v) n ds vs rs)
  one-bad-then-good v is = Rows.part_then n (bad-value v is (omega arith)) ds vs rs

  -- "the full uncompressed values are stored in the next N elements of the VALUE array"
  pub values-in-full : (us : List ℤ) → IsFlag max fulls d → 0 < length us
      → row_from max p (length us + n) (d ∷ ds) (us ++ vs) (pos (length us) ∷ rs)
      ≡ joined_to (map good us) (row_from max (last_from p us) n ds vs rs)
  values-in-full us is some =
      let long : length (map good us) ≡ length us = length-map us good in
      subst (λ (k : ℕ). row_from max p (k + n) (d ∷ ds) (us ++ vs) (pos (length us) ∷ rs)
      ≡ joined_to (map good us) (row_from max (last_from p us) n ds vs rs))
      long (Rows.part_then n (full-values us is some (omega (arith, long))) ds vs rs)

  -- "a bad run or single bad element that ends its row takes no such value (house)": even where VALUE has none,
  pub bad-run-ends-row : (c : ℕ) → IsFlag max bad-run d → 0 < c
      → row_from max p c (d ∷ ds) vs (pos c ∷ rs) ≡ reads (replicate c bad) ds vs rs
  bad-run-ends-row c is some = Rows.ends-row (bad-end c is some) (length-replicate c bad) ds vs rs

  pub one-bad-ends-row : IsFlag max bad-one d → row_from max p 1 (d ∷ ds) vs rs ≡ reads (bad ∷ []) ds vs rs
  one-bad-ends-row is = Rows.ends-row (bad_last is) refl ds vs rs

  -- while a good run always does, at the row's end too
  pub good-run-wants-value : (c : ℕ) → IsFlag max same d → 0 < n → row_from max p n (d ∷ ds) [] (pos c ∷ rs) ≡ stops 25
  good-run-wants-value c is some = fault-row (faulty some (leaves same c is same_count (inr (omega arith))))

  -- "27 the data element that starts a row is no flag"
  pub start-no-flag : NoFlag max d → 0 < n → row_from max none n (d ∷ ds) vs rs ≡ stops 27
  start-no-flag other some = fault-row (faulty some (no_flag other))

  -- "28 a sum leaves 32 bits"
  pub sum-leaves : (v : ℤ) → NoFlag max d → in32 (v +ℤ d) ≡ false → 0 < n → row_from max (value v) n (d ∷ ds) vs rs ≡ stops 28
  sum-leaves v other out some = fault-row (faulty some (sum-out v other out))

  -- "25 a place .. leaves its array": DATA ends before the row does,
  pub data-ends-early : 0 < n → row_from max p n [] vs rs ≡ stops 25
  data-ends-early some = fault-row (data-ends some)

  -- REPEAT has no count for a flag that takes one,
  pub no-count-left : (f : Flag) → IsFlag max f d → CountedFlag f → 0 < n → row_from max p n (d ∷ ds) vs [] ≡ stops 25
  no-count-left f is counted some = fault-row (faulty some (no-count f is counted))

  -- or VALUE has not the one that MAX takes,
  pub no-value-left : IsFlag max full d → 0 < n → row_from max p n (d ∷ ds) [] rs ≡ stops 25
  no-value-left is some = fault-row (faulty some (leaves full 1 is full-one (inr (omega arith))))

  -- nor the one after bad elements that do not end the row,
  pub no-value-after-bad-run : (c : ℕ) → IsFlag max bad-run d → c < n → row_from max p n (d ∷ ds) [] (pos c ∷ rs) ≡ stops 25
  no-value-after-bad-run c is less =
      fault-row (faulty (omega arith) (leaves bad-run c is bad-count (inr (Rows.wants-one n c (λ e. omega arith)))))

  pub no-value-after-bad : IsFlag max bad-one d → 1 < n → row_from max p n (d ∷ ds) [] rs ≡ stops 25
  no-value-after-bad is less =
      fault-row (faulty (omega arith) (leaves bad-one 1 is bad-only (inr (Rows.wants-one n 1 (λ e. omega arith)))))

  -- nor the c that MAX-4 takes;
  pub too-few-values : (c : ℕ) → IsFlag max fulls d → length vs < c → 0 < n → row_from max p n (d ∷ ds) vs (pos c ∷ rs) ≡ stops 25
  too-few-values c is few some = fault-row (faulty some (leaves fulls c is full-count (inr few)))

  -- "or run leaves its .. row": a longer run of any kind
  pub run-too-long : (f : Flag) (c : ℕ) → IsFlag max f d → HasCount f (pos c ∷ rs) c → n < c → 0 < n
      → row_from max p n (d ∷ ds) vs (pos c ∷ rs) ≡ stops 25
  run-too-long f c is has long some = fault-row (faulty some (leaves f c is has (inl long)))

  -- "26 a count below 1": c is such a count
  module _ (c : ℤ) (below : count_of c ≡ 0) (some : 0 < n) where
    -- 25 comes before it, also where such a count and a value that is not there stand together, with MAX-1 and MAX-2 (DECISIONS 151),
    pub same-value-first : IsFlag max same d → row_from max p n (d ∷ ds) [] (c ∷ rs) ≡ stops 25
    same-value-first is = fault-row (faulty some (leaves same (count_of c) is same_count (inr (omega arith))))

    pub bad-value-first : IsFlag max bad-run d → row_from max p n (d ∷ ds) [] (c ∷ rs) ≡ stops 25
    bad-value-first is =
        fault-row (faulty some (leaves bad-run (count_of c) is bad-count (inr (Rows.wants-one n (count_of c) (λ e. omega arith)))))

    -- where the value is there it is 26,
    pub same-count-below : (v : ℤ) → IsFlag max same d → row_from max p n (d ∷ ds) (v ∷ vs) (c ∷ rs) ≡ stops 26
    same-count-below v is =
        fault-row (faulty some (below_one_lem same is (subst (HasCount same (c ∷ rs)) below same_count) (omega arith)))

    pub bad-count-below : (v : ℤ) → IsFlag max bad-run d → row_from max p n (d ∷ ds) (v ∷ vs) (c ∷ rs) ≡ stops 26
    bad-count-below v is =
        fault-row (faulty some
        (below_one_lem bad-run is (subst (HasCount bad-run (c ∷ rs)) below bad-count) (Rows.one_at_most n (v ∷ vs) (omega arith))))

    -- and MAX-4 uses no value then, and is 26
    pub fulls-count-below : IsFlag max fulls d → row_from max p n (d ∷ ds) vs (c ∷ rs) ≡ stops 26
    fulls-count-below is =
        fault-row (faulty some (below_one_lem fulls is (subst (HasCount fulls (c ∷ rs)) below full-count) (omega arith)))

-- ---- elements: signed, little-endian, and an incomplete one at the end counts for nothing
pub elements-of-8 : elements_of 8 (0 ∷ 127 ∷ 128 ∷ 255 ∷ []) ≡ pos 0 ∷ pos 127 ∷ negsuc 127 ∷ negsuc 0 ∷ []
unfolding cut flat digits num_of
elements-of-8 = refl

pub elements-of-16 : elements_of 16 (1 ∷ 2 ∷ 255 ∷ 127 ∷ 0 ∷ 128 ∷ 255 ∷ 255 ∷ 9 ∷ []) ≡ pos 513 ∷ pos 32767 ∷ negsuc 32767 ∷ negsuc 0 ∷ []
unfolding cut flat digits num_of
elements-of-16 = refl

pub elements-of-32 : elements_of 32 (1 ∷ 2 ∷ 3 ∷ 4 ∷ 255 ∷ 255 ∷ 255 ∷ 127 ∷ 0 ∷ 0 ∷ 0 ∷ 128 ∷ 255 ∷ 255 ∷ 255 ∷ 255 ∷ 9 ∷ 9 ∷ 9 ∷ [])
    ≡ pos 67305985 ∷ pos 2147483647 ∷ negsuc 2147483647 ∷ negsuc 0 ∷ []
unfolding cut flat digits num_of
elements-of-32 = refl

-- "MAX represents the largest positive integer value": 127, 32767 or 2147483647
pub max-of : (max_of 8 ≡ pos 127) × ((max_of 16 ≡ pos 32767) × (max_of 32 ≡ pos 2147483647))
max-of = (refl, (refl, refl))

-- ---- the call; its contract says that it comes to delta_row, for every input
-- "14" first, "5" next, and then the row
pub width-14 : (n : ℕ) (a : Arrays) (at : RowPlaces) (x y : List ℕ) → (IsWidth a.data_bits → ⊥) ⊎ (IsWidth a.value_bits → ⊥)
    → delta_row n a at x y ≡ delta_refused 14 x y
width-14 = Call.other_width

pub room-5 : (n : ℕ) (a : Arrays) (at : RowPlaces) (x y : List ℕ) → IsWidth a.data_bits → IsWidth a.value_bits
    → (length x / 4 < n) ⊎ (length y < n) → delta_row n a at x y ≡ delta_refused 5 x y
room-5 = Call.no_room_lem

pub then-the-row : (n : ℕ) (a : Arrays) (at : RowPlaces) (x y : List ℕ) → IsWidth a.data_bits → IsWidth a.value_bits
    → n ≤ length x / 4 → n ≤ length y → delta_row n a at x y ≡ delta_left x y (delta_row_at n a at)
then-the-row = Call.then-row

-- A row of no elements is done, once the widths are judged, and looks at nothing else (DECISIONS 148)
pub no-elements : (a : Arrays) (at : RowPlaces) (x y : List ℕ) → IsWidth a.data_bits → IsWidth a.value_bits
    → delta_row 0 a at x y ≡ delta_written [] x y
no-elements = Call.none-wanted

-- A done call has read a row of the grammar, from the three places on, and written it
pub call-done : (n : ℕ) (a : Arrays) (at : RowPlaces) (x y : List ℕ) → (delta_row n a at x y).answer.number ≡ 0 → DoneRow n a at x y
call-done = Call.row_done_lem

-- and the other way round: arrays that begin with such a row, and room for it, and it is done
pub call-granted : (n : ℕ) (a : Arrays) (at : RowPlaces) (x y : List ℕ) → IsWidth a.data_bits → IsWidth a.value_bits
    → n ≤ length x / 4 → n ≤ length y → (es : List Element) (ds vs rs : List ℤ)
    → RowBegins (max_of a.data_bits) none n (drop at.«data».0 (elements_of a.data_bits a.data_bytes))
    (drop at.value.0 (elements_of a.value_bits a.value_bytes)) (drop at.repeat.0 (elements_of 32 a.repeat_bytes)) es ds vs rs
    → delta_row n a at x y ≡ delta_written es x y
call-granted = Call.row-granted

-- A fault of the row, where the widths and the room are right, is the call's number
pub call-faulty : (n : ℕ) (a : Arrays) (at : RowPlaces) (x y : List ℕ) → IsWidth a.data_bits → IsWidth a.value_bits
    → n ≤ length x / 4 → n ≤ length y → (e : ℕ)
    → RowFault (max_of a.data_bits) none n (drop at.«data».0 (elements_of a.data_bits a.data_bytes))
    (drop at.value.0 (elements_of a.value_bits a.value_bytes)) (drop at.repeat.0 (elements_of 32 a.repeat_bytes)) e
    → delta_row n a at x y ≡ delta_refused e x y
call-faulty = Call.row-faulty

-- Every element that a done row has used lies inside its array, of each of the three
pub done-inside : (n : ℕ) (a : Arrays) (at : RowPlaces) (x y : List ℕ) (d : DoneRow n a at x y)
    → ((d.begins.data-used ≡ []) ⊎ (at.«data».0 + length d.begins.data-used ≤ length (elements_of a.data_bits a.data_bytes)))
    × (((d.begins.values-used ≡ []) ⊎ (at.value.0 + length d.begins.values-used ≤ length (elements_of a.value_bits a.value_bytes)))
    × ((d.begins.counts-used ≡ []) ⊎ (at.repeat.0 + length d.begins.counts-used ≤ length (elements_of 32 a.repeat_bytes))))
done-inside n a at x y d = (
  Rows.used-in (elements_of a.data_bits a.data_bytes) d.begins.data-used d.data-left at.«data».0 d.begins.data_is,
  (
    Rows.used-in (elements_of a.value_bits a.value_bytes) d.begins.values-used d.values-left at.value.0
        d.begins.values-is,
    Rows.used-in (elements_of 32 a.repeat_bytes) d.begins.counts-used d.counts-left at.repeat.0 d.begins.counts-is,
  ),
)

-- "into 32-bit signed values and a mark for bad elements": the bytes written are read as the row's values and marks
pub values-written : (n : ℕ) (a : Arrays) (at : RowPlaces) (x y : List ℕ) (d : DoneRow n a at x y)
    → elements_of 32 (take (4 * n) (delta_row n a at x y).row) ≡ map value_of d.elements
values-written = Values.values-written

pub marks-written : (n : ℕ) (a : Arrays) (at : RowPlaces) (x y : List ℕ) (d : DoneRow n a at x y)
    → take n (delta_row n a at x y).marks ≡ map mark_of d.elements
marks-written = Values.marks-written

-- demand 1: the numbers that the call may answer,
pub call-numbers : (n : ℕ) (a : Arrays) (at : RowPlaces) (x y : List ℕ)
    → any (eqb (delta_row n a at x y).answer.number) (0 ∷ 14 ∷ 5 ∷ 25 ∷ 26 ∷ 27 ∷ 28 ∷ []) ≡ true
call-numbers = Call.row-number-in

-- "A refused call gives its number, zero for every count and value, and leaves the lent memory as found",
pub call-refused-keeps : (n : ℕ) (a : Arrays) (at : RowPlaces) (x y : List ℕ) → ((delta_row n a at x y).answer.number ≡ 0 → ⊥)
    → delta_row n a at x y ≡ delta_refused (delta_row n a at x y).answer.number x y
call-refused-keeps = Call.row_kept

-- and "a done call writes only" what it counts: n values of four bytes, and n marks
pub call-writes-row : (n : ℕ) (a : Arrays) (at : RowPlaces) (x y : List ℕ) → DoneRow n a at x y → Past (4 * n) x (delta_row n a at x y).row
call-writes-row = Call.row-past

pub call-writes-marks : (n : ℕ) (a : Arrays) (at : RowPlaces) (x y : List ℕ) → DoneRow n a at x y → Past n y (delta_row n a at x y).marks
call-writes-marks = Call.marks-past

-- "a mark for bad elements, whose value is 0"; a good one has the mark 0 and its own value, whose four bytes are two's complement
pub bad-is : (mark_of bad ≡ 1) × (value_of bad ≡ pos 0)
bad-is = (refl, refl)

pub good-is : (v : ℤ) → (mark_of (good v) ≡ 0) × (value_of (good v) ≡ v)
good-is v = (refl, refl)

pub value-back : (v : ℤ) → in32 v ≡ true → signed_number 32 (bits_for 32 v) ≡ v
value-back = Call.value-of-bits
