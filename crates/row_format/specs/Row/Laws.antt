-- The laws of rows: which item a pixel gets, case by case. Assumes nothing.
use Rattle.std.specs.Prelude.{ℕ, suc, ◌≤◌, ◌≡◌, refl, Bool, true, false, List, [], ◌∷◌, ◌++◌, length, eqb}
use Rattle.std.proofs.Common.{arith, sym, ap, ◌∙◌, append_assoc, eqb-true, ne_eqb}
use Rattle.std.proofs.lemmas.Bool.{eqb-false}
use Rattle.answer.specs.Outcome.Laws.{less_number-zero}
use Rattle.row_format.specs.Lists.Laws.{by-test, true-false}
use Rattle.row_format.specs.Table.{has_difference}
use Rattle.row_format.specs.Row.{Item, difference, bad_pixel, bad_bias, escape, State, fresh, past, difference_to, by_difference, item_by, item_for, after, item_bits, items_for, pixels_of, bits, too_many}

pub too_many-zero : (n : ℕ) → too_many n ≡ 0 → n ≤ 4096
too_many-zero n e = less_number-zero 4096 n 10 e

-- to show something of the item that a pixel gets, by any rule, show it of each of the four
pub item_by-cases : (P : Item → Type 0) (b : Bool) (s : State) (p : ℕ)
    → (p ≡ 4095 → P bad_pixel)
    → (p ≡ 4094 → P bad_bias)
    → ((p ≡ 4095 → ⊥) → (p ≡ 4094 → ⊥) → b ≡ true → P (difference (difference_to s p)))
    → ((p ≡ 4095 → ⊥) → (p ≡ 4094 → ⊥) → b ≡ false → P (escape p))
    → P (item_by b s p)
item_by-cases P b s p pixel bias has lacks = by-test (eqb p 4095)
    (λ e. rw e (pixel (eqb-true p 4095 e)))
    (λ e. rw e (by-test (eqb p 4094)
    (λ d. rw d (bias (eqb-true p 4094 d)))
    (λ d. rw d (by-test b
    (λ c. rw c (has (eqb-false p 4095 e) (eqb-false p 4094 d) c))
    (λ c. rw c (lacks (eqb-false p 4095 e) (eqb-false p 4094 d) c))))))

pub item_for-cases : (P : Item → Type 0) (t : List ℕ) (s : State) (p : ℕ)
    → (p ≡ 4095 → P bad_pixel)
    → (p ≡ 4094 → P bad_bias)
    → ((p ≡ 4095 → ⊥) → (p ≡ 4094 → ⊥) → by_difference t s p ≡ true → P (difference (difference_to s p)))
    → ((p ≡ 4095 → ⊥) → (p ≡ 4094 → ⊥) → by_difference t s p ≡ false → P (escape p))
    → P (item_for t s p)
unfolding item_for
item_for-cases P t s p pixel bias has lacks = item_by-cases P (by_difference t s p) s p pixel bias has lacks

-- ---- which heights are written by their difference: not the first of a row, and of the later ones those whose difference the
-- table has
pub by_difference-first : (t : List ℕ) (s : State) (p : ℕ) → s ≡ fresh → by_difference t s p ≡ false
unfolding by_difference
by_difference-first t s p e = rw e

pub by_difference-past : (t : List ℕ) (q p : ℕ) → by_difference t (past q) p ≡ has_difference t (difference_to (past q) p)
unfolding by_difference
by_difference-past t q p = refl

pub by_difference-later : (t : List ℕ) (s : State) (p : ℕ) → (s ≡ fresh → ⊥) → has_difference t (difference_to s p) ≡ true
    → by_difference t s p ≡ true
by_difference-later t fresh p begun has = absurd (begun refl)
by_difference-later t (past q) p begun has = by_difference-past t q p ∙ has

pub by_difference-lacks : (t : List ℕ) (s : State) (p : ℕ) → has_difference t (difference_to s p) ≡ false → by_difference t s p ≡ false
by_difference-lacks t fresh p e = by_difference-first t fresh p refl
by_difference-lacks t (past q) p e = by_difference-past t q p ∙ e

pub by_difference-begun : (t : List ℕ) (s : State) (p : ℕ) → by_difference t s p ≡ true → s ≡ fresh → ⊥
by_difference-begun t s p e first = true-false e (by_difference-first t s p first)

pub by_difference-has : (t : List ℕ) (s : State) (p : ℕ) → by_difference t s p ≡ true → has_difference t (difference_to s p) ≡ true
by_difference-has t fresh p e = true-false e (by_difference-first t fresh p refl)
by_difference-has t (past q) p e = sym (by_difference-past t q p) ∙ e

-- a height is written by its difference where the rule says so, and else as the height itself
module _ (s : State) (p : ℕ) (h : p ≤ 4093) where
  pub item_by-true : item_by true s p ≡ difference (difference_to s p)
  item_by-true = rw (ne_eqb p 4095 (λ q. omega arith), ne_eqb p 4094 (λ q. omega arith))

  pub item_by-false : item_by false s p ≡ escape p
  item_by-false = rw (ne_eqb p 4095 (λ q. omega arith), ne_eqb p 4094 (λ q. omega arith))

pub item_for-difference : (t : List ℕ) (s : State) (p : ℕ) → p ≤ 4093 → by_difference t s p ≡ true
    → item_for t s p ≡ difference (difference_to s p)
unfolding item_for
item_for-difference t s p h e = rw e (item_by-true s p h)

pub item_for-escape : (t : List ℕ) (s : State) (p : ℕ) → p ≤ 4093 → by_difference t s p ≡ false → item_for t s p ≡ escape p
unfolding item_for
item_for-escape t s p h e = rw e (item_by-false s p h)

pub length-items_for : (t : List ℕ) (s : State) (ps : List ℕ) → length (items_for t s ps) ≡ length ps
unfolding items_for
length-items_for t s [] = refl
length-items_for t s (p ∷ ps) = ap suc (length-items_for t (after s (item_for t s p)) ps)

pub length-pixels_of : (s : State) (is : List Item) → length (pixels_of s is) ≡ length is
unfolding pixels_of
length-pixels_of s [] = refl
length-pixels_of s (i ∷ is) = ap suc (length-pixels_of (after s i) is)

pub bits-append : (t : List ℕ) (is js : List Item) → bits t (is ++ js) ≡ bits t is ++ bits t js
unfolding bits
bits-append t [] js = refl
bits-append t (i ∷ is) js = ap (item_bits t i ++◌) (bits-append t is js) ∙ sym (append_assoc (item_bits t i) (bits t is) (bits t js))
