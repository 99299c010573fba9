-- Departures from what packing would write. Items that fit and do not depart are those that packing gives for their pixels,
-- and an item that was read departs exactly where it is raw, not the first height, and "the table has the step", or is a first
-- height by its step. Assumes nothing.
use Rattle.std.specs.Prelude.{ℕ, ◌+◌, ◌-◌, ◌≤◌, ◌≡◌, refl, true, false, not, List, [], ◌∷◌, ◌++◌, ◌↔◌, ltb}
use Rattle.std.proofs.Common.{arith, ap, inl, inr, ⊎_elim, ltb-false, ne_eqb}
use Rattle.std.proofs.lemmas.Bool.{not-false}
use Rattle.row_format.specs.Lists.{any}
use Rattle.row_format.specs.Lists.Laws.{by-test, true-false, any-false-head, any-false-tail, or-false-left, or-false-right}
use Rattle.row_format.specs.Row.{Item, difference, bad_pixel, bad_bias, escape, State, fresh, past, previous, difference_to, by_difference, item_for, pixel_of, after, after_all, items_for, pixels_of}
use Rattle.row_format.specs.Row.Laws.{item_for-cases, item_for-escape, by_difference-first, by_difference-past, by_difference-later, by_difference-has, by_difference-begun}
use Rattle.row_format.specs.Reading.{Fits, FitAll, departs, any_departs, Departure}
use Rattle.row_format.proofs.Theorems.Items.{reached, after-height, item_for-right}
use Rattle.row_format.proofs.Theorems.Differences.{pixel_of-difference_to}

-- ---- an item that fits and does not depart is the one that packing gives for its pixel
item_for-pixel_of : (t : List ℕ) (s : State) (i : Item) → previous s ≤ 4093 → Fits t s i → departs t s i ≡ false
    → item_for t s (pixel_of s i) ≡ i
unfolding item_for
item_for-pixel_of t s (difference k) height fits e =
    let to = reached s k fits.1 in
    let p = previous s + k - 4093 in
    let back : difference_to s (previous s + k - 4093) ≡ k = omega arith in
    let by = not-false (by_difference t s p) e in
    rw (ne_eqb p 4095 (λ q. omega arith), ne_eqb p 4094 (λ q. omega arith), by, back)
item_for-pixel_of t s bad_pixel height fits e = refl
item_for-pixel_of t s bad_bias height fits e = refl
item_for-pixel_of t s (escape h) height fits e = item_for-escape t s h (omega arith) e

pub items_for-pixels_of : (t : List ℕ) (s : State) (is : List Item) → previous s ≤ 4093 → FitAll t s is
    → any_departs t s is ≡ false → items_for t s (pixels_of s is) ≡ is
unfolding items_for pixels_of any_departs
items_for-pixels_of t s [] height fits e = refl
items_for-pixels_of t s (i ∷ is) height fits e =
    let own = or-false-left (departs t s i) (any_departs t (after s i) is) e in
    let rest = or-false-right (departs t s i) (any_departs t (after s i) is) e in
    rw (
      item_for-pixel_of t s i height fits.0 own,
      items_for-pixels_of t (after s i) is (after-height t s i height fits.0) fits.1 rest,
    )

-- and packing gives no item that departs
departs-item_for : (t : List ℕ) (s : State) (p : ℕ) → previous s ≤ 4093 → departs t s (item_for t s p) ≡ false
departs-item_for t s p height =
    item_for-cases (λ i. departs t s i ≡ false) t s p (λ e. refl) (λ e. refl)
    (λ d e has. rw (pixel_of-difference_to s p height) (ap not has))
    (λ d e lacks. lacks)

pub any_departs-items_for : (t : List ℕ) (s : State) (ps : List ℕ) → previous s ≤ 4093 → any (ltb 4095) ps ≡ false
    → any_departs t s (items_for t s ps) ≡ false
unfolding items_for any_departs
any_departs-items_for t s [] height e = refl
any_departs-items_for t s (p ∷ ps) height e =
    let i = item_for t s p in
    let fits = (item_for-right t s p height (ltb-false 4095 p (any-false-head (ltb 4095) p ps e))).fits in
    rw (departs-item_for t s p height)
    (any_departs-items_for t (after s i) ps (after-height t s i height fits) (any-false-tail (ltb 4095) p ps e))

-- ---- an item that fits departs exactly where it is a departure in words
-- after a first height, a difference that the table has is what packing writes
departs-later : (t : List ℕ) (q k : ℕ) → Fits t (past q) (difference k) → departs t (past q) (difference k) ≡ false
departs-later t q k fits =
    let to = reached (past q) k fits.1 in
    let back : difference_to (past q) (q + k - 4093) ≡ k = omega arith in
    rw (by_difference-past t q (q + k - 4093), back, fits.0)

pub departs-exactly : (t : List ℕ) (s : State) (i : Item) → Fits t s i → (departs t s i ≡ true) ↔ Departure t s i
departs-exactly t fresh (difference k) fits = (
  (λ e. inr (k, refl, refl)),
  (λ d. ap not (by_difference-first t fresh (pixel_of fresh (difference k)) refl)),
)
departs-exactly t (past q) (difference k) fits = (
  (λ e. true-false e (departs-later t q k fits)),
  ⊎_elim
      (λ raw. let e = raw.1 in absurd (let z : ◌≡◌ {A = ℕ} 0 1 = cc in omega arith))
      (λ first. let e = first.2 in absurd (let z : ◌≡◌ {A = ℕ} 0 1 = cc in omega arith)),
)
departs-exactly t s bad_pixel fits = (
  (λ e. true-false e refl),
  ⊎_elim
      (λ raw. let e = raw.1 in absurd (let z : ◌≡◌ {A = ℕ} 0 1 = cc in omega arith))
      (λ first. let e = first.1 in absurd (let z : ◌≡◌ {A = ℕ} 0 1 = cc in omega arith)),
)
departs-exactly t s bad_bias fits = (
  (λ e. true-false e refl),
  ⊎_elim
      (λ raw. let e = raw.1 in absurd (let z : ◌≡◌ {A = ℕ} 0 1 = cc in omega arith))
      (λ first. let e = first.1 in absurd (let z : ◌≡◌ {A = ℕ} 0 1 = cc in omega arith)),
)
departs-exactly t s (escape h) fits = (
  (λ e. inl (h, refl, by_difference-begun t s h e, by_difference-has t s h e)),
  ⊎_elim
      (λ raw. let e = raw.1 in let same : h ≡ raw.0 = cc in by_difference-later t s h raw.2 (rw same raw.3))
      (λ first. let e = first.1 in absurd (let z : ◌≡◌ {A = ℕ} 0 1 = cc in omega arith)),
)

-- and of items that fit none departs exactly when none is a departure where it stands
none-departs : (t : List ℕ) (s : State) (js ks : List Item) (i : Item) → any_departs t s (js ++ (i ∷ ks)) ≡ false
    → departs t (after_all s js) i ≡ false
unfolding any_departs after_all
none-departs t s [] ks i e = or-false-left (departs t s i) (any_departs t (after s i) ks) e
none-departs t s (j ∷ js) ks i e =
    none-departs t (after s j) js ks i (or-false-right (departs t s j) (any_departs t (after s j) (js ++ (i ∷ ks))) e)

fits-there : (t : List ℕ) (s : State) (js ks : List Item) (i : Item) → FitAll t s (js ++ (i ∷ ks)) → Fits t (after_all s js) i
unfolding after_all
fits-there t s [] ks i fits = fits.0
fits-there t s (j ∷ js) ks i fits = fits-there t (after s j) js ks i fits.1

none-departure : (t : List ℕ) (s : State) (is : List Item) → FitAll t s is
    → ((js ks : List Item) (i : Item) → is ≡ js ++ (i ∷ ks) → Departure t (after_all s js) i → ⊥)
    → any_departs t s is ≡ false
unfolding any_departs after_all
none-departure t s [] fits each = refl
none-departure t s (i ∷ is) fits each =
    let rest = none-departure t (after s i) is fits.1 (λ js ks j e. each (i ∷ js) ks j (ap (i ∷◌) e)) in
    by-test (departs t s i)
    (λ e. absurd (each [] is i refl ((departs-exactly t s i fits.0).0 e)))
    (λ e. rw e rest)

pub any_departs-exactly : (t : List ℕ) (s : State) (is : List Item) → FitAll t s is
    → (any_departs t s is ≡ false)
    ↔ ((js ks : List Item) (i : Item) → is ≡ js ++ (i ∷ ks) → Departure t (after_all s js) i → ⊥)
any_departs-exactly t s is fits = (
  (λ e js ks i parts d.
      let there = fits-there t s js ks i (rw parts at fits) in
      true-false ((departs-exactly t (after_all s js) i there).1 d) (none-departs t s js ks i (rw parts at e))),
  none-departure t s is fits,
)
