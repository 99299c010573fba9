-- What is not looked at: the words after a table, and another party's places. Assumes nothing.
use Rattle.std.specs.Prelude.{ℕ, ◌+◌, ◌*◌, ◌%◌, ◌≤◌, ◌<◌, ◌≡◌, true, ◌||◌, List, ◌++◌, ◌↔◌, length, leb, eqb}
use Rattle.std.proofs.Math.Decide.{ℕ_discrete}
use Rattle.std.proofs.Common.{arith, sym, ap, ◌∙◌, take_all, ltb-true}
use Rattle.std.proofs.lemmas.Bool.{lt-leb}
use Rattle.bitstream.specs.Bits.{words_of}
use Rattle.row_format.specs.Lists.Laws.{by-test}
use Rattle.row_format.specs.Table.{table_size, low_limit, wrong_size, verdict, table_number}
use Rattle.shelf_format.specs.Shelf.{place, placed, is_free, table_in, is_common, is_own, is_seen, view, SameView}
use Rattle.shelf_format.proofs.Shelf.Laws.{length-placed, place_same, place_other, size-append, table-read}
use Rattle.shelf_format.proofs.Calls.Laws.{own-few}
use Rattle.shelf_format.specs.Run.{Call, reply}
use Rattle.shelf_format.proofs.Theorems.Seen.{reply-same}

-- ---- shelves that differ in one place only, where the table is the same
module _ (s : List ℕ) (j : ℕ) (b b' : List ℕ) (whole : length b ≡ 32772) (whole' : length b' ≡ 32772)
    (inside : 32772 * j + 32772 ≤ length s) where
  -- a place of the one and of the other
  by_place : {A : Type 0} (f : List ℕ → A) → f b ≡ f b' → (i : ℕ) → f (place (placed s j b) i) ≡ f (place (placed s j b') i)
  by_place f is i = at_place (ℕ_discrete i j)
    where
      at_place : Dec (i ≡ j) → f (place (placed s j b) i) ≡ f (place (placed s j b') i)
      at_place (yes e) = rw (e, place_same s j b whole inside, place_same s j b' whole' inside) is
      at_place (no e) = ap f (place_other s j b i whole inside e ∙ sym (place_other s j b' i whole' inside e))

  in-view : {A : Type 0} (f : List ℕ → A) → f b ≡ f b' → (q i : ℕ) → f (view q (placed s j b) i) ≡ f (view q (placed s j b') i)
  unfolding view
  in-view f is q i = by-test (is_common i || is_own q i) (λ h. rw h (by_place f is i)) (λ h. rw h)

  pub table_same : is_free b ≡ is_free b' → table_in b ≡ table_in b' → (q : ℕ) (c : Call) → reply (placed s j b) q c ≡ reply (placed s j b') q c
  table_same free table q =
      let size = length-placed s j b whole inside ∙ sym (length-placed s j b' whole' inside) in
      reply-same q (placed s j b) (placed s j b') (record {
        short = rw size;
        free = in-view is_free free q;
        table = in-view table_in table q;
      })

-- "no word after a table is looked at"
pub rest-unread : (s : List ℕ) (j : ℕ) (tb r r' : List ℕ) → length tb ≡ 24 + 4 * table_size (words_of tb)
    → length (tb ++ r) ≡ 32772 → length (tb ++ r') ≡ 32772 → 32772 * j + 32772 ≤ length s
    → (q : ℕ) (c : Call) → reply (placed s j (tb ++ r)) q c ≡ reply (placed s j (tb ++ r')) q c
unfolding is_free
rest-unread s j tb r r' size whole whole' inside =
    let some : 12 ≤ length tb = omega (arith, size) in
    table_same s j (tb ++ r) (tb ++ r') whole whole' inside
    (ap (λ (n : ℕ). eqb n 0) (size-append tb r some ∙ sym (size-append tb r' some)))
    (table-read tb r size ∙ sym (table-read tb r' size))

-- ---- a tableSize above 8187
verdict-large : (t : List ℕ) → 8187 < table_size t → verdict t ≡ 1
unfolding verdict wrong_size
verdict-large t large =
    rw (lt-leb (low_limit t + table_size t) 8187 (omega (arith, large))) (by-test (leb 1 (table_size t)) (λ h. rw h) (λ h. rw h))

number-large : (b : List ℕ) → 8187 < table_size (words_of b) → table_number b ≡ 1
unfolding table_number
number-large b large = by-test (eqb (length b % 4) 0) (λ h. rw h (verdict-large (words_of b) large)) (λ h. rw h)

pub oversized : (b : List ℕ) → length b ≡ 32772 → 8187 < table_size (words_of b) → table_number (table_in b) ≡ 1
unfolding table_in
oversized b whole large =
    rw (take_all (24 + 4 * table_size (words_of b)) b (omega (arith, whole, large))) (number-large b large)

-- ---- alike: every place that is common or the party's own holds the same
pub alike-places : (p : ℕ) (s s' : List ℕ) → SameView p s s' ↔ ((i : ℕ) → is_seen p i ≡ true → place s i ≡ place s' i)
unfolding view
alike-places p s s' = (
  λ alike i seen. rw seen at (alike i),
  λ same i. by-test (is_common i || is_own p i) (λ seen. rw seen (same i seen)) (λ unseen. rw unseen),
)

-- so all twelve are enough
pub alike-twelve : (p : ℕ) (s s' : List ℕ) → ((i : ℕ) → i < 12 → place s i ≡ place s' i) → SameView p s s'
alike-twelve p s s' same = (alike-places p s s').1 (λ i seen. same i (few i seen))
  where
    few : (i : ℕ) → is_seen p i ≡ true → i < 12
    few i seen = by-test (is_common i) (λ common. omega (arith, ltb-true i 4 common)) (λ other. own-few p i (rw other at seen))
