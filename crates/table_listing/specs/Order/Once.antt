-- Tree order has each place exactly once. Assumes nothing.
use Rattle.std.specs.Prelude.{ℕ, zero, suc, ◌+◌, ◌≤◌, ◌<◌, ◌≡◌, refl, length, get_or, ltb}
use Rattle.std.proofs.Common.{add-one, arith, ap, ◌∙◌, length-append, eq-eqb, ne_eqb, ltb-true, ltb-false}
use mathlib.Core.List.{List, [], ◌∷◌, ◌++◌, Permᴰ}
use Rattle.std.proofs.Math.ListN.{get_or-append}
use Rattle.std.proofs.lemmas.List.{get_or_at}
use Rattle.bitstream.specs.Bits.Laws.{below-nil, below-cons, below-head, below-tail, below-append}
use Rattle.bitstream.specs.Bits.{Below}
use Rattle.row_format.specs.Lists.Laws.{by-test}
use Rattle.table_listing.specs.Order.{order, places, occurs}
use Rattle.table_listing.specs.Order.Laws.{order-perm}

-- ---- what a permutation keeps
pub perm-length : {a b : List ℕ} → Permᴰ a b → length a ≡ length b
perm-length Permᴰ.nil = refl
perm-length (Permᴰ.cons e p) = ap suc (perm-length p)
perm-length (Permᴰ.swap e g) = refl
perm-length (Permᴰ.trans p q) = perm-length p ∙ perm-length q

pub perm-occurs : {a b : List ℕ} (x : ℕ) → Permᴰ a b → occurs x a ≡ occurs x b
unfolding occurs
perm-occurs x Permᴰ.nil = refl
perm-occurs x (Permᴰ.cons e p) = rw (e, perm-occurs x p)
perm-occurs x (Permᴰ.swap e g) = rw (e, g) (omega arith)
perm-occurs x (Permᴰ.trans p q) = perm-occurs x p ∙ perm-occurs x q

pub perm-below : {a b : List ℕ} {n : ℕ} → Permᴰ a b → Below n b → Below n a
perm-below Permᴰ.nil h = h
perm-below (Permᴰ.cons e p) h = rw e (below-cons (below-head h) (perm-below p (below-tail h)))
perm-below (Permᴰ.swap e g) h =
    rw (e, g) (below-cons (below-head (below-tail h)) (below-cons (below-head h) (below-tail (below-tail h))))
perm-below (Permᴰ.trans p q) h = perm-below p (perm-below q h)

-- ---- the first n places
pub length-places : (n : ℕ) → length (places n) ≡ n
unfolding places
length-places zero = refl
length-places (suc n) = length-append (places n) (n ∷ []) ∙ rw (length-places n) (add-one n)

pub get_d-places : (n i : ℕ) → i < n → get_or (places n) i 0 ≡ i
unfolding places
get_d-places zero i h = absurd (omega arith)
get_d-places (suc n) i h =
    by-test (ltb i n)
    (λ e. let less = ltb-true i n e in get_or-append (places n) (n ∷ []) 0 i (omega (arith, length-places n)) ∙ get_d-places n i less)
    (λ e. let same : i ≡ n = omega (arith, ltb-false i n e) in rw same (get_or_at (places n) n [] 0 n (length-places n)))

occurs-append : (x : ℕ) (a b : List ℕ) → occurs x (a ++ b) ≡ occurs x a + occurs x b
unfolding occurs
occurs-append x [] b = omega arith
occurs-append x (y ∷ a) b = rw (occurs-append x a b) (omega arith)

places-above : (x n : ℕ) → n ≤ x → occurs x (places n) ≡ 0
unfolding places occurs
places-above x zero h = refl
places-above x (suc n) h = occurs-append x (places n) (n ∷ []) ∙ rw (places-above x n (omega arith), ne_eqb x n (λ e. omega arith))

pub places-once : (x n : ℕ) → x < n → occurs x (places n) ≡ 1
unfolding places occurs
places-once x zero h = absurd (omega arith)
places-once x (suc n) h =
    occurs-append x (places n) (n ∷ [])
    ∙ by-test (ltb x n)
    (λ e. let less = ltb-true x n e in rw (places-once x n less, ne_eqb x n (λ q. omega arith)))
    (λ e. let more = ltb-false x n e in rw (places-above x n more, eq-eqb x n (omega arith)))

pub places-below : (k n : ℕ) → 0 < k → n ≤ k → Below k (places n)
unfolding places
places-below k zero pos h = below-nil pos
places-below k (suc n) pos h = below-append (places n) (n ∷ []) (places-below k n pos (omega arith)) (below-cons h (below-nil pos))

-- ---- all places in tree order
module _ (s : ℕ → List ℕ) (bits : (p : ℕ) → Below 2 (s p)) (left n : ℕ) where
  pub length-order : length (order s left 0 (places n)) ≡ n
  length-order = perm-length (order-perm s bits left 0 (places n)) ∙ length-places n

  -- each exactly once
  pub order-once : (p : ℕ) → p < n → occurs p (order s left 0 (places n)) ≡ 1
  order-once p h = perm-occurs p (order-perm s bits left 0 (places n)) ∙ places-once p n h

  pub order_below : 0 < n → Below n (order s left 0 (places n))
  order_below h = perm-below (order-perm s bits left 0 (places n)) (places-below n n h (omega arith))
