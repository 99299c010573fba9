-- In tree order each string stands before those that follow it. Assumes nothing.
use Prim.Native.Nat.{ℕ, zero, suc, ◌+◌, ◌≤◌, ◌<◌}
use Rattle.std.proofs.Common.{le_of_suc-le-suc, arith, sym, ap, ◌∙◌, subst, drop-cons}
use Rattle.std.specs.Prelude.{◌≡◌, refl, true, drop, get_or, leb}
use mathlib.Core.List.{List, [], ◌∷◌, ◌++◌, Permᴰ}
use Rattle.std.proofs.Math.ListN.{length, drop_of_length-le}
use borrow.Author.Tests.{leb-true, leb-false, eq-eqb}
use Rattle.bitstream.specs.Bits.{Below}
use Rattle.row_format.specs.Lists.Laws.{by-test}
use Rattle.table_listing.specs.Order.{way, picked, order, before}
use Rattle.table_listing.specs.Order.Laws.{way-ended, way_on, by_way, picked-some, picked-other, order-suc, order-perm}

-- ---- what holds of each element, and of each pair
data All (P : ℕ → Type 0) : List ℕ → Type 0 where
  none : All P []
  more : {x : ℕ} {l : List ℕ} → P x → All P l → All P (x ∷ l)

data Sorted (R : ℕ → ℕ → Type 0) : List ℕ → Type 0 where
  empty : Sorted R []
  first : {x : ℕ} {l : List ℕ} → All (R x) l → Sorted R l → Sorted R (x ∷ l)

module _ {P : ℕ → Type 0} where
  all_any : ((x : ℕ) → P x) → (l : List ℕ) → All P l
  all_any f [] = none
  all_any f (x ∷ l) = more (f x) (all_any f l)

  all_from : (l : List ℕ) → ((j : ℕ) → j < length l → P (get_or l j 0)) → All P l
  all_from [] f = none
  all_from (x ∷ l) f = more (f 0 (omega arith)) (all_from l (λ j h. f (suc j) (omega arith)))

  all_append : {a b : List ℕ} → All P a → All P b → All P (a ++ b)
  all_append none h = h
  all_append (more p g) h = more p (all_append g h)

  all_map : {Q : ℕ → Type 0} {l : List ℕ} → ((x : ℕ) → P x → Q x) → All P l → All Q l
  all_map f none = none
  all_map f (more {x = x} p h) = more (f x p) (all_map f h)

  all-perm : {a b : List ℕ} → Permᴰ a b → All P b → All P a
  all-perm Permᴰ.nil h = h
  all-perm (Permᴰ.cons e p) (more q h) = more (subst P (sym e) q) (all-perm p h)
  all-perm (Permᴰ.swap e g) (more q (more r h)) = more (subst P (sym e) r) (more (subst P (sym g) q) h)
  all-perm (Permᴰ.trans p q) h = all-perm p (all-perm q h)

  all-at : {l : List ℕ} (j : ℕ) → All P l → j < length l → P (get_or l j 0)
  all-at j none h = absurd (omega arith)
  all-at zero (more p g) h = p
  all-at (suc j) (more p g) h = all-at j g (le_of_suc-le-suc h)

module _ {R : ℕ → ℕ → Type 0} where
  sorted-append : {a b : List ℕ} → Sorted R a → Sorted R b → All (λ x. All (R x) b) a → Sorted R (a ++ b)
  sorted-append empty g h = g
  sorted-append (first p f) g (more q h) = first (all_append p q) (sorted-append f g h)

  -- a relation that holds of every pair whose first element has P
  sorted_all : {P : ℕ → Type 0} {l : List ℕ} → ((x y : ℕ) → P x → R x y) → All P l → Sorted R l
  sorted_all f none = empty
  sorted_all f (more {x = x} {l = l} p h) = first (all_any (λ y. f x y p) l) (sorted_all f h)

  -- a relation that is weaker where P holds
  sorted-map : {P : ℕ → Type 0} {S : ℕ → ℕ → Type 0} {l : List ℕ} → ((x y : ℕ) → P x → P y → R x y → S x y)
      → All P l → Sorted R l → Sorted S l
  sorted-map f none empty = empty
  sorted-map {P} {S} f (more {x = x} p h) (first r g) = first (both h r) (sorted-map f h g)
    where
      both : {l : List ℕ} → All P l → All (R x) l → All (S x) l
      both none none = none
      both (more {x = y} q hs) (more s rs) = more (f x y p q s) (both hs rs)

  sorted-at : {l : List ℕ} (i j : ℕ) → Sorted R l → i < j → j < length l → R (get_or l i 0) (get_or l j 0)
  sorted-at i j empty below h = absurd (omega arith)
  sorted-at i zero (first p g) below h = absurd (omega arith)
  sorted-at zero (suc j) (first p g) below h = all-at j p (le_of_suc-le-suc h)
  sorted-at (suc i) (suc j) (first p g) below h = sorted-at i j g (le_of_suc-le-suc below) (le_of_suc-le-suc h)

-- ---- the ways, by what is left of a string
ended-rest : (d : ℕ) (bits : List ℕ) → way d bits ≡ 0 → drop d bits ≡ []
ended-rest d bits e =
    by-test (leb (length bits) d)
    (λ t. drop_of_length-le bits (leb-true (length bits) d t))
    (λ t. absurd (omega (arith, way_on d bits (leb-false (length bits) d t))))

branch-rest : (d b : ℕ) (bits : List ℕ) → way d bits ≡ 1 + b → drop d bits ≡ b ∷ drop (suc d) bits
branch-rest d b bits e =
    by-test (leb (length bits) d)
    (λ t. absurd (omega (arith, way-ended d bits (leb-true (length bits) d t))))
    (λ t.
    let inside = leb-false (length bits) d t in
    let bit : get_or bits d 0 ≡ b = omega (arith, way_on d bits inside) in
    drop-cons bits d 0 inside ∙ ap (◌∷ drop (suc d) bits) bit)

module _ (s : ℕ → List ℕ) (bits : (p : ℕ) → Below 2 (s p)) where
  -- before, by what is left d bits deep
  Before : ℕ → ℕ → ℕ → Type 0
  Before d p q = before (drop d (s p)) (drop d (s q)) ≡ true

  picked-way : (d k : ℕ) (ps : List ℕ) → All (λ p. way d (s p) ≡ k) (picked s d k ps)
  picked-way d k [] = unfold picked in none
  picked-way d k (p ∷ ps) =
      by_way s d k p
      (λ e. rw (picked-some s d k p ps e) (more e (picked-way d k ps)))
      (λ e. rw (picked-other s d k p ps e) (picked-way d k ps))

  picked_all : {P : ℕ → Type 0} (d k : ℕ) {ps : List ℕ} → All P ps → All P (picked s d k ps)
  picked_all d k none = unfold picked in none
  picked_all d k (more {x = p} {l = ps} q h) =
      by_way s d k p
      (λ e. rw (picked-some s d k p ps e) (more q (picked_all d k h)))
      (λ e. rw (picked-other s d k p ps e) (picked_all d k h))

  -- one that has ended stands before any other
  ended-before : (d p q : ℕ) → drop d (s p) ≡ [] → Before d p q
  unfolding Before before
  ended-before d p q e = rw e

  -- two that go the same way, by what is left one bit deeper
  same-before : (d b p q : ℕ) → drop d (s p) ≡ b ∷ drop (suc d) (s p) → drop d (s q) ≡ b ∷ drop (suc d) (s q)
      → Before (suc d) p q → Before d p q
  unfolding Before before
  same-before d b p q e g h = rw (e, g, eq-eqb b b refl) h

  -- the 0-branch before the 1-branch
  parted-before : (d p q : ℕ) → drop d (s p) ≡ 0 ∷ drop (suc d) (s p) → drop d (s q) ≡ 1 ∷ drop (suc d) (s q) → Before d p q
  unfolding Before before
  parted-before d p q e g = rw (e, g)

  -- one step of the walk, z and o being the two branches in order
  module _ (d : ℕ) (ps z o : List ℕ) (low : Permᴰ z (picked s d 1 ps)) (high : Permᴰ o (picked s d 2 ps)) where
    ends : All (λ p. drop d (s p) ≡ []) (picked s d 0 ps)
    ends = all_map (λ p e. ended-rest d (s p) e) (picked-way d 0 ps)

    zeros : All (λ p. drop d (s p) ≡ 0 ∷ drop (suc d) (s p)) z
    zeros = all_map (λ p e. branch-rest d 0 (s p) e) (all-perm low (picked-way d 1 ps))

    ones : All (λ p. drop d (s p) ≡ 1 ∷ drop (suc d) (s p)) o
    ones = all_map (λ p e. branch-rest d 1 (s p) e) (all-perm high (picked-way d 2 ps))

    step-sorted : Sorted (Before (suc d)) z → Sorted (Before (suc d)) o → Sorted (Before d) (picked s d 0 ps ++ z ++ o)
    step-sorted f g =
        sorted-append
        (sorted-append
        (sorted_all (λ p q e. ended-before d p q e) ends)
        (sorted-map (λ p q. same-before d 0 p q) zeros f)
        (all_map (λ p e. all_any (λ q. ended-before d p q e) z) ends))
        (sorted-map (λ p q. same-before d 1 p q) ones g)
        (all_append
        (all_map (λ p e. all_any (λ q. ended-before d p q e) o) ends)
        (all_map (λ p e. all_map (λ q g. parted-before d p q e g) ones) zeros))

  -- the tree is deep enough for each string
  sorted : (left d : ℕ) (ps : List ℕ) → All (λ p. length (s p) ≤ d + left) ps → Sorted (Before d) (order s left d ps)
  sorted zero d ps short =
      unfold order in
      sorted_all (λ p q e. ended-before d p q e) (all_map (λ p h. drop_of_length-le (s p) {i = d} (omega arith)) short)
  sorted (suc left) d ps short =
      let deeper : All (λ p. length (s p) ≤ suc d + left) ps = all_map (λ p h. omega arith) short in
      rw (order-suc s left d ps)
      (step-sorted d ps (order s left (suc d) (picked s d 1 ps)) (order s left (suc d) (picked s d 2 ps))
      (order-perm s bits left (suc d) (picked s d 1 ps))
      (order-perm s bits left (suc d) (picked s d 2 ps))
      (sorted left (suc d) (picked s d 1 ps) (picked_all d 1 deeper))
      (sorted left (suc d) (picked s d 2 ps) (picked_all d 2 deeper)))

  pub order-before : (left : ℕ) (ps : List ℕ) → ((j : ℕ) → j < length ps → length (s (get_or ps j 0)) ≤ left)
      → (i j : ℕ) → i < j → j < length (order s left 0 ps)
      → before (s (get_or (order s left 0 ps) i 0)) (s (get_or (order s left 0 ps) j 0)) ≡ true
  unfolding Before
  order-before left ps short i j below h = sorted-at i j (sorted left 0 ps (all_from ps (λ k g. omega (arith, short k g)))) below h
