-- The laws of a shelf: what stands in a place after one was written, which place is whose, and how much of a place is its table.
-- Assumes nothing.
use Rattle.std.specs.Prelude.{ℕ, ◌+◌, ◌-◌, ◌*◌, ◌/◌, ◌≤◌, ◌<◌, ◌≡◌, refl, true, false, cond, ◌||◌, replicate, ltb, leb}
use Rattle.std.proofs.Math.Decide.{dec_lt, ℕ_discrete}
use native.Mathlib.Omega.{arith}
use Rattle.std.proofs.Common.{sym, ap, ◌∙◌, length-take-le, drop_at, drop-drop, ltb-true, leb-true, eq-eqb, lt-ltb, le-ltb, le-leb, ne_eqb}
use mathlib.Core.List.{List, [], ◌++◌, append_assoc}
use Rattle.std.proofs.Math.ListN.{length, take, drop, length-append, length-drop}
use Rattle.std.proofs.lemmas.List.{length-replicate, take-append-le, drop-append-le}
use Rattle.std.proofs.Math.Seq.{take_at}
use Rattle.bitstream.specs.Bits.{bits_of, digits, num_of, flat, words_of}
use Rattle.bitstream.specs.Bits.Laws.{flat-take, flat-drop, length_cut, get_d-cut}
use Rattle.row_format.specs.Lists.Laws.{by-test, and-true-all, and-true-right, field-take}
use Rattle.row_format.specs.Table.{table_size, table_number}
use Rattle.row_format.specs.Table.Laws.{table_number-whole, accepted-table}
use Rattle.shelf_format.specs.Shelf.{place, placed, filled, is_free, table_in, is_party, is_common, first_own, is_own, may_use, view, SameView}

-- ---- a place written
pub length-filled : (tb : List ℕ) → length tb ≤ 32772 → length (filled tb) ≡ 32772
unfolding filled
length-filled tb h = omega (arith, length-append tb (replicate (32772 - length tb) 0), length-replicate {A = ℕ} (32772 - length tb) 0, h)

module _ (s : List ℕ) (j : ℕ) (b : List ℕ) (whole : length b ≡ 32772) (inside : 32772 * j + 32772 ≤ length s) where
  front : length (take (32772 * j) s) ≡ 32772 * j
  front = length-take-le (32772 * j) s (omega (arith, inside))

  rest : List ℕ
  rest = b ++ drop (32772 * j + 32772) s

  pub length-placed : length (placed s j b) ≡ length s
  unfolding placed rest
  length-placed =
      omega (
        arith,
        length-append (take (32772 * j) s) rest,
        length-append b (drop (32772 * j + 32772) s),
        front,
        whole,
        inside,
        length-drop (32772 * j + 32772) s,
      )

  pub place_same : place (placed s j b) j ≡ b
  unfolding place placed
  place_same =
      rw (drop_at (take (32772 * j) s) (b ++ drop (32772 * j + 32772) s) (32772 * j) front)
      (take_at b (drop (32772 * j + 32772) s) 32772 whole)

  pub before-placed : take (32772 * j) (placed s j b) ≡ take (32772 * j) s
  unfolding placed
  before-placed = take_at (take (32772 * j) s) (b ++ drop (32772 * j + 32772) s) (32772 * j) front

  pub behind-placed : drop (32772 * j + 32772) (placed s j b) ≡ drop (32772 * j + 32772) s
  unfolding placed
  behind-placed =
      let a = take (32772 * j) s in
      let d = drop (32772 * j + 32772) s in
      let size : length (a ++ b) ≡ 32772 * j + 32772 = omega (arith, length-append a b, front, whole) in
      rw (← append_assoc a b d) (drop_at (a ++ b) d (32772 * j + 32772) size)

-- a place in front of k bytes, or behind them, is that of any shelf with the same bytes there
place-front : (k : ℕ) (s s' : List ℕ) (i : ℕ) → 32772 * i + 32772 ≤ k → take k s ≡ take k s' → place s i ≡ place s' i
unfolding place
place-front k s s' i h e =
    let n = 32772 * i in
    sym (field-take n 32772 k s h) ∙ ap (λ l. take 32772 (drop n l)) e ∙ field-take n 32772 k s' h

place-behind : (k : ℕ) (s s' : List ℕ) (i : ℕ) → k ≤ 32772 * i → drop k s ≡ drop k s' → place s i ≡ place s' i
unfolding place
place-behind k s s' i h e =
    let n = 32772 * i in
    let sum : k + (n - k) ≡ n = omega (arith, h) in
    let shifted : (l : List ℕ) → drop n l ≡ drop (n - k) (drop k l) = λ l. sym (drop-drop (n - k) k l ∙ ap (λ (x : ℕ). drop x l) sum) in
    ap (take 32772) (shifted s ∙ ap (drop (n - k)) e ∙ sym (shifted s'))

-- every other place is as it was
pub place_other : (s : List ℕ) (j : ℕ) (b : List ℕ) (i : ℕ) → length b ≡ 32772 → 32772 * j + 32772 ≤ length s → (i ≡ j → ⊥)
    → place (placed s j b) i ≡ place s i
place_other s j b i whole inside other = by_order (dec_lt i j)
  where
    by_order : Dec (i < j) → place (placed s j b) i ≡ place s i
    by_order (yes lower) = place-front (32772 * j) (placed s j b) s i (omega (arith, lower)) (before-placed s j b whole inside)
    by_order (no higher) =
        place-behind (32772 * j + 32772) (placed s j b) s i (omega (arith, higher, other)) (behind-placed s j b whole inside)

-- ---- whose a place is
pub record Own (p i : ℕ) : Type 0 where
  pub party : p < 2
  pub least : first_own p ≤ i
  pub most : i < first_own p + 4

pub own : (p i : ℕ) → is_own p i ≡ true → Own p i
unfolding is_own
own p i h =
    let parts = and-true-all (ltb p 2) (leb (first_own p) i) (ltb i (first_own p + 4)) h in
    record { party = ltb-true p 2 parts.0; least = leb-true (first_own p) i parts.1; most = ltb-true i (first_own p + 4) parts.2 }

pub own_is : (p i : ℕ) → Own p i → is_own p i ≡ true
unfolding is_own
own_is p i o = rw (lt-ltb p 2 o.party, le-leb (first_own p) i o.least, lt-ltb i (first_own p + 4) o.most)

-- a place of a party is among the twelve
pub own-inside : (p i : ℕ) (s : List ℕ) → Own p i → 393264 ≤ length s → 32772 * i + 32772 ≤ length s
own-inside p i s o h = omega (arith, o.party, o.most, h)

-- it is no common one, and not another party's
pub own-uncommon : (p i : ℕ) → Own p i → is_common i ≡ false
own-uncommon p i o = le-ltb i 4 (omega (arith, o.least))

pub own-only : (p q i : ℕ) → Own p i → (q ≡ p → ⊥) → is_own q i ≡ false
own-only p q i o other =
    by-test (is_own q i)
    (λ e. let o' = own q i e in absurd (other (omega (arith, o.least, o.most, o'.least, o'.most))))
    (λ e. e)

-- ---- what a party sees
pub view-own : (p i : ℕ) (s : List ℕ) → Own p i → view p s i ≡ place s i
unfolding view
view-own p i s o = rw (own-uncommon p i o, own_is p i o)

pub view-usable : (p i : ℕ) (s : List ℕ) → may_use p i ≡ true → view p s i ≡ place s i
unfolding view may_use
view-usable p i s h = rw (and-true-right (is_party p) (is_common i || is_own p i) h)

-- another party's place is not among it
view-unseen : (p q i : ℕ) (s : List ℕ) → Own p i → (q ≡ p → ⊥) → view q s i ≡ []
unfolding view
view-unseen p q i s o other = rw (own-uncommon p i o, own-only p q i o other)

-- a view is that of another shelf where the places are
view-by-place : (q i : ℕ) (s s' : List ℕ) → place s i ≡ place s' i → view q s i ≡ view q s' i
unfolding view
view-by-place q i s s' e = ap (λ b. cond (is_common i || is_own q i) b []) e

module _ (p j : ℕ) (b : List ℕ) (o : Own p j) (whole : length b ≡ 32772) where
  view-other : (q i : ℕ) (s : List ℕ) → 393264 ≤ length s → (i ≡ j → ⊥) → view q (placed s j b) i ≡ view q s i
  view-other q i s long other = view-by-place q i (placed s j b) s (place_other s j b i whole (own-inside p j s o long) other)

  -- what is written to a party's place, no other party sees
  pub unseen : (q : ℕ) (s : List ℕ) → (q ≡ p → ⊥) → 393264 ≤ length s → SameView q (placed s j b) s
  unseen q s other long i = by_place (ℕ_discrete i j)
    where
      by_place : Dec (i ≡ j) → view q (placed s j b) i ≡ view q s i
      by_place (yes e) = rw e (view-unseen p q j (placed s j b) o other ∙ sym (view-unseen p q j s o other))
      by_place (no e) = view-other q i s long e

  -- shelves that are alike to a party are so after the same was written to a place of its own
  pub alike-placed : (s s' : List ℕ) → 393264 ≤ length s → 393264 ≤ length s' → SameView p s s' → SameView p (placed s j b) (placed s' j b)
  alike-placed s s' long long' alike i = by_place (ℕ_discrete i j)
    where
      same : (x : List ℕ) → 393264 ≤ length x → view p (placed x j b) j ≡ b
      same x h = view-own p j (placed x j b) o ∙ place_same x j b whole (own-inside p j x o h)

      by_place : Dec (i ≡ j) → view p (placed s j b) i ≡ view p (placed s' j b) i
      by_place (yes e) = rw e (same s long ∙ sym (same s' long'))
      by_place (no e) = view-other p i s long e ∙ alike i ∙ sym (view-other p i s' long' e)

-- ---- how much of a place is its table
-- tableSize is four of the bytes
size-bytes : (b : List ℕ) → 12 ≤ length b → table_size (words_of b) ≡ num_of (flat 8 (take 4 (drop 8 b)))
size-bytes b h =
    get_d-cut 32 (length b / 4) (bits_of b) 2 (omega (arith, h))
    ∙ ap num_of (ap (take 32) (sym (flat-drop 8 8 b)) ∙ sym (flat-take 8 4 (drop 8 b)))

-- the same of a table with anything after it
pub size-append : (tb r : List ℕ) → 12 ≤ length tb → table_size (words_of (tb ++ r)) ≡ table_size (words_of tb)
size-append tb r h =
    let front : take 4 (drop 8 (tb ++ r)) ≡ take 4 (drop 8 tb) =
    rw (drop-append-le 8 tb r (omega (arith, h))) (take-append-le 4 (drop 8 tb) r (omega (arith, h, length-drop 8 tb))) in
    size-bytes (tb ++ r) (omega (arith, h, length-append tb r)) ∙ ap (λ x. num_of (flat 8 x)) front ∙ sym (size-bytes tb h)

-- an accepted table has the bytes that it says
pub record TableBytes (tb : List ℕ) : Type 0 where
  pub bytes : length tb ≡ 24 + 4 * table_size (words_of tb)
  pub least : 1 ≤ table_size (words_of tb)
  pub most : length tb ≤ 32772

pub table-bytes : (tb : List ℕ) → table_number tb ≡ 0 → TableBytes tb
table-bytes tb ok =
    let a = accepted-table tb ok in
    let words = sym (length_cut 32 (length tb / 4) (bits_of tb)) ∙ a.words in
    let bytes : length tb ≡ 24 + 4 * table_size (words_of tb) = omega (arith, words, table_number-whole tb ok) in
    record { bytes = bytes; least = a.size-least; most = omega (arith, bytes, a.size-most) }

-- "no word after a table is looked at"
pub table-read : (tb r : List ℕ) → length tb ≡ 24 + 4 * table_size (words_of tb) → table_in (tb ++ r) ≡ tb
unfolding table_in
table-read tb r size = rw (size-append tb r (omega (arith, size)), ← size) (take_at tb r (length tb) refl)

pub table_filled : (tb : List ℕ) → table_number tb ≡ 0 → table_in (filled tb) ≡ tb
unfolding filled
table_filled tb ok = table-read tb (replicate (32772 - length tb) 0) (table-bytes tb ok).bytes

-- a place is taken where a table stands, and free where none does
pub taken-filled : (tb : List ℕ) → table_number tb ≡ 0 → is_free (filled tb) ≡ false
unfolding is_free filled
taken-filled tb ok =
    let t = table-bytes tb ok in
    let size = size-append tb (replicate (32772 - length tb) 0) (omega (arith, t.bytes)) in
    ne_eqb (table_size (words_of (tb ++ replicate (32772 - length tb) 0))) 0 (λ none. absurd (omega (arith, size, none, t.least)))

pub free-filled : is_free (filled []) ≡ true
unfolding is_free filled num_of flat digits
free-filled = eq-eqb (table_size (words_of (filled []))) 0 (size-bytes (filled []) (omega (arith, length-filled [] (omega arith))))
