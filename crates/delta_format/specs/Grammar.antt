-- Source document 004's flags, one sentence each: which elements of the three arrays stand for which elements of a row, and which are
-- refused. It is not how they are read: what stands for a row (`PartCode`, `RowCode`) says nothing of an order in which something is
-- judged. What is refused (`FaultCode`) has 26 where 25 is not, and takes counts and how many values a flag wants from Row. max is MAX.
-- Definitions only; their laws are in proofs/Grammar/. Assumes nothing.
use Rattle.std.specs.Prelude.{ℕ, ◌+◌, ◌≤◌, ◌<◌, ◌≡◌, true, false, ◌⊎◌, List, [], ◌∷◌, ◌++◌, map, length, replicate, ℤ, pos, ◌+ℤ◌, ◌-ℤ◌}
use Rattle.delta_format.specs.Numbers.{in32}
use Rattle.delta_format.specs.Row.{
  Element,
  good,
  bad,
  Flag,
  full,
  same,
  bad-run,
  bad-one,
  fulls,
  Previous,
  none,
  value,
  last_from,
  count_of,
  values_for,
}

-- ---- the five flags
abbrev pub below_max : Flag → ℕ
below_max full = 0
below_max same = 1
below_max bad-run = 2
below_max bad-one = 3
below_max fulls = 4

-- d is k less than MAX
abbrev pub Down : ℤ → ℕ → ℤ → Type 0
Down max k d = max -ℤ d ≡ pos k

abbrev pub IsFlag : ℤ → Flag → ℤ → Type 0
IsFlag max f d = Down max (below_max f) d

-- d is none of them
abbrev pub NoFlag : ℤ → ℤ → Type 0
NoFlag max d = (f : Flag) → IsFlag max f d → ⊥

-- ---- the element d of DATA, with the values us and the counts cs, stands for the elements es in a row that wants `left` more and
-- whose last value is p; afterwards it is q
pub data PartCode (max : ℤ) : Previous → ℕ → ℤ → List ℤ → List ℤ → List Element → Previous → Type 0 where
  -- "the full uncompressed value is stored in the next element of the VALUE array"
  full-value : {p : Previous} {left : ℕ} {d : ℤ} (v : ℤ) → IsFlag max full d → 0 < left
      → PartCode max p left d (v ∷ []) [] (good v ∷ []) (value v)
  -- "exactly equal to the following (N-1) elements. The full uncompressed value is stored in the next element of the VALUE array. The
  -- value of N is stored in the next element of the REPEAT array"
  same-values : {p : Previous} {left : ℕ} {d : ℤ} (v : ℤ) (c : ℕ) → IsFlag max same d → 0 < c → c ≤ left
      → PartCode max p left d (v ∷ []) (pos c ∷ []) (replicate c (good v)) (value v)
  -- "bad, as are the following (N-1) elements. The full uncompressed value of the next good value following the bad values is stored in
  -- the next element of the VALUE array"
  bad-values : {p : Previous} {left : ℕ} {d : ℤ} (v : ℤ) (c : ℕ) → IsFlag max bad-run d → 0 < c → c < left
      → PartCode max p left d (v ∷ []) (pos c ∷ []) (replicate c bad ++ (good v ∷ [])) (value v)
  -- "a bad run .. that ends its row takes no such value (house)"
  bad-end : {p : Previous} {d : ℤ} (c : ℕ) → IsFlag max bad-run d → 0 < c → PartCode max p c d [] (pos c ∷ []) (replicate c bad) p
  -- "bad, but the following element is good and its full uncompressed value is stored in the next element of the VALUE array"
  bad-value : {p : Previous} {left : ℕ} {d : ℤ} (v : ℤ) → IsFlag max bad-one d → 1 < left
      → PartCode max p left d (v ∷ []) [] (bad ∷ good v ∷ []) (value v)
  -- "or single bad element that ends its row"
  bad_last : {p : Previous} {d : ℤ} → IsFlag max bad-one d → PartCode max p 1 d [] [] (bad ∷ []) p
  -- "the full uncompressed values are stored in the next N elements of the VALUE array"
  full-values : {p : Previous} {left : ℕ} {d : ℤ} (us : List ℤ) → IsFlag max fulls d → 0 < length us → length us ≤ left
      → PartCode max p left d us (pos (length us) ∷ []) (map good us) (last_from p us)
  -- "(NEXT - PREVIOUS) - the difference between the next uncompressed value and the previous uncompressed value"
  step : {left : ℕ} {d : ℤ} (v : ℤ) → NoFlag max d → in32 (v +ℤ d) ≡ true
      → PartCode max (value v) left d [] [] (good (v +ℤ d) ∷ []) (value (v +ℤ d))

-- ---- the elements ds, with the values vs and the counts rs, stand for a row of n elements es; all of them are used, in their order
pub data RowCode (max : ℤ) : Previous → ℕ → List ℤ → List ℤ → List ℤ → List Element → Type 0 where
  row-end : {p : Previous} → RowCode max p 0 [] [] [] []
  part : {p q : Previous} {n : ℕ} {d : ℤ} {us cs : List ℤ} {es : List Element} {ds vs rs : List ℤ} {fs : List Element}
      → PartCode max p (length es + n) d us cs es q → RowCode max q n ds vs rs fs
      → RowCode max p (length es + n) (d ∷ ds) (us ++ vs) (cs ++ rs) (es ++ fs)

-- the arrays begin with such elements, and the last three lists are what follows them
pub record RowBegins (max : ℤ) (p : Previous) (n : ℕ) (ds vs rs : List ℤ) (es : List Element) (ds' vs' rs' : List ℤ) : Type 0 where
  pub data-used : List ℤ
  pub values-used : List ℤ
  pub counts-used : List ℤ
  pub codes : RowCode max p n data-used values-used counts-used es
  pub data_is : ds ≡ data-used ++ ds'
  pub values-is : vs ≡ values-used ++ vs'
  pub counts-is : rs ≡ counts-used ++ rs'

-- ---- what is refused at one element d of DATA, with its number; vs and rs are all that is left of the other arrays
-- the count that a flag has: MAX and MAX-3 have none in REPEAT and are of one element. 0 stands for all below 1
pub data HasCount : Flag → List ℤ → ℕ → Type 0 where
  full-one : {rs : List ℤ} → HasCount full rs 1
  bad-only : {rs : List ℤ} → HasCount bad-one rs 1
  same_count : {c : ℤ} {rs : List ℤ} → HasCount same (c ∷ rs) (count_of c)
  bad-count : {c : ℤ} {rs : List ℤ} → HasCount bad-run (c ∷ rs) (count_of c)
  full-count : {c : ℤ} {rs : List ℤ} → HasCount fulls (c ∷ rs) (count_of c)

-- the flags that have one
pub data CountedFlag : Flag → Type 0 where
  same-counted : CountedFlag same
  bad-counted : CountedFlag bad-run
  fulls-counted : CountedFlag fulls

pub data FaultCode (max : ℤ) : Previous → ℕ → ℤ → List ℤ → List ℤ → ℕ → Type 0 where
  -- "27 the data element that starts a row is no flag"
  no_flag : {left : ℕ} {d : ℤ} {vs rs : List ℤ} → NoFlag max d → FaultCode max none left d vs rs 27
  -- "25 a place .. leaves its array": no count is left
  no-count : {p : Previous} {left : ℕ} {d : ℤ} {vs : List ℤ} (f : Flag) → IsFlag max f d → CountedFlag f
      → FaultCode max p left d vs [] 25
  -- "25 a .. run leaves its .. row", or its values their array
  leaves : {p : Previous} {left : ℕ} {d : ℤ} {vs rs : List ℤ} (f : Flag) (c : ℕ) → IsFlag max f d → HasCount f rs c
      → (left < c) ⊎ (length vs < values_for f left c) → FaultCode max p left d vs rs 25
  -- "26 a count below 1", where none of these is
  below_one_lem : {p : Previous} {left : ℕ} {d : ℤ} {vs rs : List ℤ} (f : Flag) → IsFlag max f d → HasCount f rs 0
      → values_for f left 0 ≤ length vs → FaultCode max p left d vs rs 26
  -- "28 a sum leaves 32 bits"
  sum-out : {left : ℕ} {d : ℤ} {vs rs : List ℤ} (v : ℤ) → NoFlag max d → in32 (v +ℤ d) ≡ false → FaultCode max (value v) left d vs rs 28

-- "earliest element first": all before it stand for elements of the row
pub data RowFault (max : ℤ) : Previous → ℕ → List ℤ → List ℤ → List ℤ → ℕ → Type 0 where
  -- "25 a place .. leaves its array": DATA ends before the row does
  data-ends : {p : Previous} {left : ℕ} {vs rs : List ℤ} → 0 < left → RowFault max p left [] vs rs 25
  faulty : {p : Previous} {left : ℕ} {d : ℤ} {ds vs rs : List ℤ} {e : ℕ} → 0 < left → FaultCode max p left d vs rs e
      → RowFault max p left (d ∷ ds) vs rs e
  after : {p q : Previous} {n : ℕ} {d : ℤ} {us cs : List ℤ} {es : List Element} {ds vs rs : List ℤ} {e : ℕ}
      → PartCode max p (length es + n) d us cs es q → RowFault max q n ds vs rs e
      → RowFault max p (length es + n) (d ∷ ds) (us ++ vs) (cs ++ rs) e
