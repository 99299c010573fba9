-- What is previous, item by item: it is a height, of 0 to 4093, wherever the next item is written or read; and where the next
-- pixels are written, or the next items read, from. Assumes nothing.
use Prim.Native.Nat.{ℕ, zero, suc, ◌+◌, ◌≤◌}
use Rattle.std.proofs.Common.{zero-add, add_assoc, sym, ap, ◌∙◌, drop-drop}
use native.Mathlib.Omega.{arith}
use Rattle.std.specs.Prelude.{◌≡◌, false, List, [], ◌∷◌, ◌++◌, drop, ltb}
use Rattle.std.proofs.Math.Path.{refl}
use Rattle.row_format.specs.Lists.{any}
use Rattle.row_format.specs.Row.{Item, State, fresh, previous, item_for, after, after_all, items_for}
use Rattle.row_format.specs.Reading.{FitAll, Reading, item, fault, read_item, Run, done, stop, prepend_all, prepend, follow, read_by, read_items}
use Rattle.row_format.proofs.Theorems.Items.{after-height}
use Rattle.row_format.proofs.Theorems.RoundTrip.{items_for-right}

-- ---- after items that fit, what is previous is a height
after_all-height : (t : List ℕ) (s : State) (is : List Item) → previous s ≤ 4093 → FitAll t s is
    → previous (after_all s is) ≤ 4093
unfolding after_all
after_all-height t s [] h fits = h
after_all-height t s (i ∷ is) h fits = after_all-height t (after s i) is (after-height t s i h fits.0) fits.1

pub fit-height : (t : List ℕ) (is : List Item) → FitAll t fresh is → previous (after_all fresh is) ≤ 4093
fit-height t is fits = after_all-height t fresh is (omega arith) fits

pub items_for-height : (t ps : List ℕ) → any (ltb 4095) ps ≡ false → previous (after_all fresh (items_for t fresh ps)) ≤ 4093
items_for-height t ps e = fit-height t (items_for t fresh ps) (items_for-right t fresh ps (omega arith) e).fits

-- ---- the pixels after some are written from the state after the items of those
pub items_for-append : (t : List ℕ) (s : State) (ps qs : List ℕ)
    → items_for t s (ps ++ qs) ≡ items_for t s ps ++ items_for t (after_all s (items_for t s ps)) qs
unfolding items_for after_all
items_for-append t s [] qs = refl
items_for-append t s (p ∷ ps) qs = ap (item_for t s p ∷◌) (items_for-append t (after s (item_for t s p)) ps qs)

-- ---- the items after some are read from the state after those, and from the bits after theirs
prepend_all-none : (x : Run) → prepend_all [] 0 x ≡ x
prepend_all-none (done is u) = rw (zero-add u)
prepend_all-none (stop e at u) = rw (zero-add at, zero-add u)

prepend_all-cons : (i : Item) (u : ℕ) (is : List Item) (v : ℕ) (x : Run)
    → prepend i u (prepend_all is v x) ≡ prepend_all (i ∷ is) (u + v) x
prepend_all-cons i u is v (done js w) = rw (add_assoc u v w)
prepend_all-cons i u is v (stop e at w) = rw (add_assoc u v at, add_assoc u v w)

-- a run, and what follows it where it is done
abbrev pub run_continued : Run → (List Item → ℕ → Run) → Run
run_continued (done is u) f = prepend_all is u (f is u)
run_continued (stop e at u) f = stop e at u

module _ (f : State → List ℕ → Reading) (k : ℕ) where
  -- k items more
  abbrev onward : State → List ℕ → List Item → ℕ → Run
  onward s r is u = read_by f (after_all s is) k (drop u r)

  prepend-run_continued : (s : State) (r : List ℕ) (i : Item) (u : ℕ) (x : Run)
      → prepend i u (run_continued x (onward (after s i) (drop u r))) ≡ run_continued (prepend i u x) (onward s r)
  unfolding after_all
  prepend-run_continued s r i u (done is v) =
      prepend_all-cons i u is v (read_by f (after_all (after s i) is) k (drop v (drop u r)))
      ∙ rw (drop-drop v u r)
  prepend-run_continued s r i u (stop e at v) = refl

  follow-run_continued : (s : State) (r : List ℕ) (x : Reading) (g h : Item → ℕ → Run)
      → ((i : Item) (u : ℕ) → g i u ≡ run_continued (h i u) (onward (after s i) (drop u r)))
      → follow x g ≡ run_continued (follow x h) (onward s r)
  follow-run_continued s r (item i u) g h same = ap (prepend i u) (same i u) ∙ prepend-run_continued s r i u (h i u)
  follow-run_continued s r (fault e u) g h same = refl

  pub read_by-add : (s : State) (n : ℕ) (r : List ℕ) → read_by f s (n + k) r ≡ run_continued (read_by f s n r) (onward s r)
  unfolding read_by after_all
  read_by-add s zero r = rw (zero-add k) (sym (prepend_all-none (read_by f s k r)))
  read_by-add s (suc n) r =
      let more : suc n + k ≡ suc (n + k) = omega arith in
      rw more
      (follow-run_continued s r (f s r)
      (λ i u. read_by f (after s i) (n + k) (drop u r)) (λ i u. read_by f (after s i) n (drop u r))
      (λ i u. read_by-add (after s i) n (drop u r)))

pub read_items-add : (t : List ℕ) (n k : ℕ) (r : List ℕ) (is : List Item) (u : ℕ) → read_items t n r ≡ done is u
    → read_items t (n + k) r ≡ prepend_all is u (read_by (read_item t) (after_all fresh is) k (drop u r))
unfolding read_items
read_items-add t n k r is u e =
    read_by-add (read_item t) k fresh n r ∙ ap (λ (x : Run). run_continued x (onward (read_item t) k fresh r)) e

-- and a reading that stops, stops whatever more is asked
pub read_items-stop : (t : List ℕ) (n k : ℕ) (r : List ℕ) (e at u : ℕ) → read_items t n r ≡ stop e at u
    → read_items t (n + k) r ≡ stop e at u
unfolding read_items
read_items-stop t n k r e at u h =
    read_by-add (read_item t) k fresh n r ∙ ap (λ (x : Run). run_continued x (onward (read_item t) k fresh r)) h
