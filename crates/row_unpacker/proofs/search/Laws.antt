-- The laws of the search for a codeword. Assumes nothing.
use Prim.Native.Nat.{ℕ, zero, suc, ◌+◌, ◌-◌, ◌/◌, ◌%◌, ◌^◌, ◌≤◌, ◌<◌}
use native.Mathlib.Omega.{arith}
use mathlib.Core.Path.{◌≡◌, refl, sym, ap, ◌∙◌}
use mathlib.Core.Bool.{Bool, true, false}
use mathlib.Core.List.{List, [], ◌∷◌, ◌++◌}
use lib.ListN.{length, take, drop, get_or, take-append-drop}
use lib.Seq.{take-append_seam, take_at, take_all}
use lib.Dec.{ltb, eqb}
use borrow.Author.Tests.{ltb-true, ltb-false, eq-eqb, ne_eqb}
use Rattle.bitstream.specs.Bits.{num_of, digits, begins, words_of, Below}
use Rattle.bitstream.specs.Bits.Laws.{below-take, below-digits, length_digits, digits-split, num_of-digits, num_of-inj}
use Rattle.row_format.specs.Lists.{any}
use Rattle.row_format.specs.Lists.Laws.{by-test, true-false, any_false, any-false-at}
use Rattle.row_format.specs.BitLaws.{begins-length, begins-drop, begins-append}
use Rattle.row_format.specs.Table.{codeword, codewords, codeword_at, table_number}
use Rattle.row_format.specs.Table.Laws.{length-codeword, length-codewords, length-codeword_at, get_d-codewords, accepted, table_number-verdict}
use Rattle.row_format.specs.Reading.{none, found, find}
use Rattle.row_format.proofs.Theorems.Search.{find-only}
use Rattle.code_table.specs.Check.Laws.{length-words}
use Rattle.row_unpacker.specs.View.{Seen}
use Rattle.row_unpacker.proofs.view.Laws.{low-window}
use Rattle.row_unpacker.specs.Search.{hit, Finds, CutShort, begun_by, Tested}
use Rattle.row_unpacker.specs.declared.view.View.{View}
use Rattle.std.specs.Prelude.{Some, None}

-- no codeword in the words of t from word 3 to word i passes the test
pub record Passed (f : List ℕ → List ℕ → Bool) (t : List ℕ) (v : View) (i : ℕ) : Type 0 where
  pub least : 3 ≤ i
  pub none : (r : List ℕ) → Seen r v → (j : ℕ) → j + 3 < i → f r (codeword_at t j) ≡ false

-- ---- a string begins another exactly where the numbers of as many bits are equal
pub begins-short : (a r : List ℕ) → length r < length a → begins a r ≡ false
begins-short a r h = by-test (begins a r) (λ e. absurd (omega (arith, begins-length a r e))) (λ e. e)

module _ (a r : List ℕ) (bits-a : Below 2 a) (bits-r : Below 2 r) (within : length a ≤ length r) where
  taken : begins a r ≡ true → take (length a) r ≡ a
  taken e = ap (take (length a)) (begins-drop a r e) ∙ take-append_seam a (drop (length a) r)

  given : take (length a) r ≡ a → begins a r ≡ true
  given e = ap (begins a) (sym (take-append-drop (length a) r) ∙ ap (◌++ drop (length a) r) e) ∙ begins-append a (drop (length a) r)

  pub begins-eqb : eqb (num_of (take (length a) r)) (num_of a) ≡ begins a r
  begins-eqb = by-test (begins a r)
      (λ e. rw (e, eq-eqb (num_of (take (length a) r)) (num_of a) (ap num_of (taken e))))
      (λ e. rw (
        e,
        ne_eqb (num_of (take (length a) r)) (num_of a) (λ q.
            true-false
            (given (num_of-inj (take (length a) r) a (below-take (length a) r bits-r) bits-a
            (lib.Seq.length-take-le (length a) r within) q)) e),
      ))

-- ---- the codeword of a word
below-codeword : (w : ℕ) → Below 2 (codeword w)
unfolding codeword
below-codeword w = below-digits (w % 32) (w / 32)

num_of-codeword : (w : ℕ) → num_of (codeword w) ≡ w / 32 % 2 ^ (w % 32)
unfolding codeword
num_of-codeword w = num_of-digits (w % 32) (w / 32)

num_of-take-codeword : (w n : ℕ) → n ≤ w % 32 → num_of (take n (codeword w)) ≡ w / 32 % 2 ^ n
unfolding codeword
num_of-take-codeword w n h =
    let e : w % 32 ≡ n + (w % 32 - n) = omega arith in
    ap (λ (k : ℕ). num_of (take n (digits k (w / 32)))) e
    ∙ ap (λ (l : List ℕ). num_of (take n l)) (digits-split n (w % 32 - n) (w / 32))
    ∙ ap num_of (take_at (digits n (w / 32)) (digits (w % 32 - n) (w / 32 / 2 ^ n)) n (length_digits n (w / 32)))
    ∙ num_of-digits n (w / 32)

-- ---- whether it begins the rest
module _ (w : ℕ) (v : View) where
  pub begun_by-short : v.left < w % 32 → Tested begun_by w v false
  begun_by-short h = record { is = λ r seen. sym (begins-short (codeword w) r (omega (arith, seen.left, length-codeword w))) }

  pub begun_by-low : (x y : ℕ) → w % 32 ≤ v.left → x ≡ v.window % 2 ^ (w % 32) → y ≡ w / 32 % 2 ^ (w % 32) → Tested begun_by w v (eqb x y)
  begun_by-low x y h ex ey = record {
    is = λ r seen.
        let front : x ≡ num_of (take (length (codeword w)) r) =
        ex ∙ low-window r v seen (w % 32) (omega arith) ∙ ap (λ (k : ℕ). num_of (take k r)) (sym (length-codeword w)) in
        rw (front, ey ∙ sym (num_of-codeword w))
        (begins-eqb (codeword w) r (below-codeword w) seen.bits (omega (arith, seen.left, length-codeword w)));
  }

  -- ---- whether the rest is a beginning of it
  pub begins-long : w % 32 < v.left → Tested begins w v false
  begins-long h = record { is = λ r seen. sym (begins-short r (codeword w) (omega (arith, seen.left, length-codeword w))) }

  pub begins-low : (x : ℕ) → v.left < 32 → v.left ≤ w % 32 → x ≡ w / 32 % 2 ^ v.left → Tested begins w v (eqb x v.window)
  begins-low x short h ex = record {
    is = λ r seen.
        let size : v.left ≡ length r = omega (arith, seen.left) in
        let front : x ≡ num_of (take (length r) (codeword w)) =
        ex ∙ sym (num_of-take-codeword w v.left h) ∙ ap (λ (k : ℕ). num_of (take k (codeword w))) size in
        let whole : v.window ≡ num_of r = seen.window ∙ ap num_of (take_all 32 r (omega arith)) in
        rw (front, whole)
        (begins-eqb r (codeword w) seen.bits (below-codeword w) (omega (arith, length-codeword w)));
  }

-- ---- one turn of a search
module _ (f : List ℕ → List ℕ → Bool) (t : List ℕ) (v : View) where
  pub passed_none : Passed f t v 3
  passed_none = record { least = omega arith; none = λ r seen j h. absurd (omega arith) }

  pub passed-more : (i w : ℕ) → Passed f t v i → w ≡ get_or t i 0 → {b : Bool} → Tested f w v b → b ≡ false → Passed f t v (i + 1)
  unfolding codeword_at
  passed-more i w p is b no' = record {
    least = omega (arith, p.least);
    none = λ r seen j h. by-test (ltb (j + 3) i)
        (λ e. p.none r seen j (ltb-true (j + 3) i e))
        (λ e.
        let here : 3 + j ≡ i = omega (arith, ltb-false (j + 3) i e) in
        ap (λ (k : ℕ). f r (codeword (get_or t k 0))) here ∙ ap (λ (k : ℕ). f r (codeword k)) (sym is) ∙ sym (b.is r seen) ∙ no');
  }

  -- all codewords were passed
  all-passed : (i : ℕ) → Passed f t v i → length t ≤ i → (r : List ℕ) → Seen r v → (j : ℕ) → j < length (codewords t)
      → f r (get_or (codewords t) j []) ≡ false
  all-passed i p h r seen j b = rw (get_d-codewords t j) (p.none r seen j (omega (arith, length-codewords t)))

-- ---- what is found
find_first : (ss : List (List ℕ)) (r : List ℕ) (i : ℕ) → ((j : ℕ) → j < i → begins (get_or ss j []) r ≡ false) → i < length ss
    → begins (get_or ss i []) r ≡ true
    → find ss r ≡ found i
unfolding find
find_first [] r i before h e = absurd (omega arith)
find_first (s ∷ ss) r zero before h e = rw e
find_first (s ∷ ss) r (suc i) before h e =
    rw (before 0 (omega arith), find_first ss r i (λ j b. before (suc j) (omega arith)) (omega arith) e)

find_none : (ss : List (List ℕ)) (r : List ℕ) → ((j : ℕ) → j < length ss → begins (get_or ss j []) r ≡ false) → find ss r ≡ none
unfolding find
find_none [] r before = refl
find_none (s ∷ ss) r before = rw (before 0 (omega arith), find_none ss r (λ j b. before (suc j) (omega arith)))

any-true-at : (f : List ℕ → Bool) (ss : List (List ℕ)) (i : ℕ) → i < length ss → f (get_or ss i []) ≡ true → any f ss ≡ true
any-true-at f ss i h e = by-test (any f ss) (λ p. p) (λ p. true-false e (any-false-at f ss i [] p h))

module _ (t : List ℕ) (v : View) where
  -- word i's codeword, at its place in the table
  place : (i : ℕ) → 3 ≤ i → get_or (codewords t) (i - 3) [] ≡ codeword (get_or t i 0)
  unfolding codeword_at
  place i h = let e : 3 + (i - 3) ≡ i = omega arith in get_d-codewords t (i - 3) ∙ ap (λ (k : ℕ). codeword (get_or t k 0)) e

  module _ (i w : ℕ) (h : i < length t) (is : w ≡ get_or t i 0) where
    pub finds-here : Passed begun_by t v i → {b : Bool} → Tested begun_by w v b → b ≡ true → Finds t v (Some (i - 3))
    finds-here p b yes' = record {
      is = λ r seen.
          let least : 3 ≤ i = p.least in
          sym (ap hit (find_first (codewords t) r (i - 3)
          (λ j b. rw (get_d-codewords t j) (p.none r seen j (omega arith)))
          (omega (arith, length-codewords t))
          (rw (place i least, ← is) (sym (b.is r seen) ∙ yes'))));
    }

    pub short-here : Passed begins t v i → {b : Bool} → Tested begins w v b → b ≡ true → CutShort t v true
    short-here p b yes' = record {
      is = λ r seen.
          let least : 3 ≤ i = p.least in
          sym
          (any-true-at (begins r) (codewords t) (i - 3) (omega (arith, length-codewords t))
          (rw (place i least, ← is) (sym (b.is r seen) ∙ yes')));
    }

  pub finds-nowhere : (i : ℕ) → Passed begun_by t v i → length t ≤ i → Finds t v None
  finds-nowhere i p h = record { is = λ r seen. sym (ap hit (find_none (codewords t) r (all-passed begun_by t v i p h r seen))) }

  pub short-nowhere : (i : ℕ) → Passed begins t v i → length t ≤ i → CutShort t v false
  short-nowhere i p h = record { is = λ r seen. sym (any_false (begins r) (codewords t) [] (all-passed begins t v i p h r seen)) }

  -- a rest of 32 bits is longer than every codeword
  pub short-long : 31 < v.left → CutShort t v false
  short-long h = record {
    is = λ r seen. sym (any_false (begins r) (codewords t) []
        (λ j b. rw (get_d-codewords t j) (begins-short r (codeword_at t j) (omega (arith, seen.left, length-codeword_at t j)))));
  }

-- ---- under an accepted table the codeword that begins the rest is the only one, however it was come by
pub finds-only : (tb : List ℕ) (v : View) → table_number tb ≡ 0 → (i w : ℕ) → 3 ≤ i → i < length tb / 4 → w ≡ get_or (words_of tb) i 0
    → {b : Bool} → Tested begun_by w v b → b ≡ true → Finds (words_of tb) v (Some (i - 3))
finds-only tb v ok i w least h is b yes' = record {
  is = λ r seen.
      let t = words_of tb in
      let a = accepted t (table_number-verdict tb ok) in
      let begins-it : begins (codeword_at t (i - 3)) r ≡ true =
      ap (λ (s : List ℕ). begins s r) (sym (get_d-codewords t (i - 3)) ∙ place t v i least ∙ ap codeword (sym is)) ∙ sym (b.is r seen)
      ∙ yes' in
      sym (ap hit (find-only t a (i - 3) r (omega (arith, a.words, length-words tb)) begins-it));
}

-- "A table is 6 + tableSize words", of at most 8187 entries
pub words-most : (tb : List ℕ) → table_number tb ≡ 0 → length tb / 4 ≤ 8193
words-most tb ok = let a = accepted (words_of tb) (table_number-verdict tb ok) in omega (arith, a.words, a.size-most, length-words tb)
