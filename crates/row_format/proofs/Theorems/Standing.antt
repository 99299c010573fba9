-- What is read stands there: under an accepted table the bits that a reading uses are those of its items. Assumes nothing.
use Prim.Native.Nat.{ℕ, zero, suc, ◌+◌, ◌≤◌}
use native.Mathlib.Omega.{arith}
use Rattle.std.specs.Prelude.{◌≡◌, refl, true, false, List, ◌++◌, length, take, drop, ltb}
use Rattle.std.proofs.Common.{sym, ap, ◌∙◌, subst, append_assoc, length-append, length-drop, take-append-drop, drop-drop, length-take-le}
use Rattle.bitstream.specs.Bits.{digits, num_of, begins, Below}
use Rattle.bitstream.specs.Bits.Laws.{below-take, below-drop, length_digits, digits-num_of}
use Rattle.row_format.specs.Lists.{any}
use Rattle.row_format.specs.BitLaws.{begins-drop}
use Rattle.row_format.specs.Table.{entry_difference, codewords, codeword_at, Accepted}
use Rattle.row_format.specs.Table.Laws.{get_d-codewords, length-codewords-size}
use Rattle.row_format.specs.Row.{Item, difference, State, fresh, after, item_bits, pixels_of, bits}
use Rattle.row_format.specs.Row.Laws.{length-pixels_of}
use Rattle.row_format.proofs.Reading.Laws.{unmatched-cases, raw_height-cases, matched-cases}
use Rattle.row_format.specs.Reading.{Match, none, found, find, Reading, item, fault, raw_height, unmatched, matched, taken, read_item, Run, done, stop, prepend, follow, read_by, read_items, Fits, FitAll}
use Rattle.row_format.proofs.Theorems.Items.{any-pixels_of}
use Rattle.row_format.proofs.Theorems.Search.{Found, find-found}
use Rattle.row_format.proofs.Theorems.Differences.{has_difference-entry, item_bits-entry}

-- ---- one item
-- an item's bits stand at the front of the rest, and are u
pub record Front (bs r : List ℕ) (u : ℕ) : Type 0 where
  pub there : r ≡ bs ++ drop u r
  pub size : u ≡ length bs

abbrev pub Stands : List ℕ → State → List ℕ → Reading → Type 0
Stands t s r (item i u) = Fits t s i × Front (item_bits t i) r u
Stands t s r (fault e u) = Unit {0}

front_of : (a r : List ℕ) → begins a r ≡ true → Front a r (length a)
front_of a r p = record { there = begins-drop a r p; size = refl }

-- a string and after it a number of w bits
field-front : (c r : List ℕ) (w : ℕ) → Below 2 r → begins c r ≡ true → length c + w ≤ length r
    → Front (c ++ digits w (num_of (take w (drop (length c) r)))) r (length c + w)
field-front c r w bin p within =
    let rest = drop (length c) r in
    let room : w ≤ length (drop (length c) r) = omega (arith, length-drop (length c) r) in
    let field : digits w (num_of (take w rest)) ≡ take w rest =
    rw (length-take-le w rest room) at (digits-num_of (take w rest) (below-take w rest (below-drop (length c) r bin))) in
    let parts : rest ≡ digits w (num_of (take w rest)) ++ drop (length c + w) r =
    sym (take-append-drop w rest) ∙ rw (field, drop-drop w (length c) r) in
    let number = digits w (num_of (take w rest)) in
    record {
      there = begins-drop c r p ∙ ap (c ++◌) parts ∙ sym (append_assoc c number (drop (length c + w) r));
      size = sym (length-append c number ∙ rw (length_digits w (num_of (take w rest))));
    }

raw_height-stands : (t : List ℕ) (s : State) (r : List ℕ) → Below 2 r → begins (codeword_at t 0) r ≡ true
    → Stands t s r (raw_height (length (codeword_at t 0)) r)
raw_height-stands t s r bin p = raw_height-cases (Stands t s r) (length (codeword_at t 0)) r
    (λ short. tt)
    (λ long height. (height, field-front (codeword_at t 0) r 12 bin p long))
    (λ long high. tt)

module _ (t : List ℕ) (ok : Accepted t) where
  taken-stands : (s : State) (r : List ℕ) → Below 2 r → (m : Match) → Found (codewords t) r m → Stands t s r (taken t s r m)
  unfolding matched unmatched
  taken-stands s r bin none e = unmatched-cases (Stands t s r) (codewords t) r (λ six. tt) (λ seven. tt)
  taken-stands s r bin (found zero) q = raw_height-stands t s r bin (rw (get_d-codewords t 0) at q.1)
  taken-stands s r bin (found (suc zero)) q = (tt, front_of (codeword_at t 1) r (rw (get_d-codewords t 1) at q.1))
  taken-stands s r bin (found (suc (suc zero))) q = (tt, front_of (codeword_at t 2) r (rw (get_d-codewords t 2) at q.1))
  taken-stands s r bin (found (suc (suc (suc i)))) q =
      let j = suc (suc (suc i)) in
      let place : 3 + i ≡ j = omega arith in
      let has = has_difference-entry t i (omega (arith, q.0, length-codewords-size t ok)) in
      let front : Front (item_bits t (difference (entry_difference t i))) r (length (codeword_at t j)) =
      rw (item_bits-entry t i, place) (front_of (codeword_at t j) r (rw (get_d-codewords t j) at q.1)) in
      matched-cases (Stands t s r) t s r i (length (codeword_at t j)) (λ leads. ((has, leads), front)) (λ eight. tt)

  pub read_item-stands : (s : State) (r : List ℕ) → Below 2 r → Stands t s r (read_item t s r)
  unfolding read_item
  read_item-stands s r bin = taken-stands s r bin (find (codewords t) r) (find-found (codewords t) r)

-- ---- a run of n items
pub record RunStands (t : List ℕ) (s : State) (n : ℕ) (r : List ℕ) (is : List Item) (u : ℕ) : Type 0 where
  pub count : length is ≡ n
  pub fits : FitAll t s is
  pub front : Front (bits t is) r u

abbrev pub DoneStands : List ℕ → State → ℕ → List ℕ → Run → Type 0
DoneStands t s n r (done is u) = RunStands t s n r is u
DoneStands t s n r (stop e at u) = Unit {0}

front-append : (a b r : List ℕ) (u v : ℕ) → Front a r u → Front b (drop u r) v → Front (a ++ b) r (u + v)
front-append a b r u v p q = record {
  there = p.there ∙ ap (a ++◌) (q.there ∙ rw (drop-drop v u r)) ∙ sym (append_assoc a b (drop (u + v) r));
  size = omega (arith, length-append a b, p.size, q.size);
}

prepend-stands : (t : List ℕ) (s : State) (n : ℕ) (r : List ℕ) (i : Item) (u : ℕ) (x : Run)
    → Fits t s i × Front (item_bits t i) r u → DoneStands t (after s i) n (drop u r) x
    → DoneStands t s (suc n) r (prepend i u x)
unfolding bits
prepend-stands t s n r i u (done is v) p q = record {
  count = omega (arith, q.count);
  fits = (p.0, q.fits);
  front = front-append (item_bits t i) (bits t is) r u v p.1 q.front;
}
prepend-stands t s n r i u (stop e at v) p q = tt

follow-stands : (t : List ℕ) (s : State) (n : ℕ) (r : List ℕ) (x : Reading) (f : Item → ℕ → Run) → Stands t s r x
    → ((i : Item) (u : ℕ) → DoneStands t (after s i) n (drop u r) (f i u)) → DoneStands t s (suc n) r (follow x f)
follow-stands t s n r (item i u) f p rest = prepend-stands t s n r i u (f i u) p (rest i u)
follow-stands t s n r (fault e u) f p rest = tt

pub read_by-stands : (t : List ℕ) (ok : Accepted t) (s : State) (n : ℕ) (r : List ℕ) → Below 2 r
    → DoneStands t s n r (read_by (read_item t) s n r)
unfolding read_by bits
read_by-stands t ok s zero r bin = record { count = refl; fits = tt; front = record { there = refl; size = refl } }
read_by-stands t ok s (suc n) r bin =
    follow-stands t s n r (read_item t s r) (λ i u. read_by (read_item t) (after s i) n (drop u r))
    (read_item-stands t ok s r bin) (λ i u. read_by-stands t ok (after s i) n (drop u r) (below-drop u r bin))

pub read_items-stands : (t : List ℕ) (ok : Accepted t) (n : ℕ) (r : List ℕ) (is : List Item) (u : ℕ) → Below 2 r
    → read_items t n r ≡ done is u → RunStands t fresh n r is u
unfolding read_items
read_items-stands t ok n r is u bin e = subst (DoneStands t fresh n r) e (read_by-stands t ok fresh n r bin)

-- what was read is a row
pub stands-pixels : (t : List ℕ) (n : ℕ) (r : List ℕ) (is : List Item) (u : ℕ) → RunStands t fresh n r is u
    → (length (pixels_of fresh is) ≡ n) × (any (ltb 4095) (pixels_of fresh is) ≡ false)
stands-pixels t n r is u stands = (length-pixels_of fresh is ∙ stands.count, any-pixels_of t fresh is stands.fits)
