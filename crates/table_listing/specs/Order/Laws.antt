-- The laws of tree order. Assumes nothing.
use Rattle.std.specs.Prelude.{ℕ, zero, suc, ◌+◌, ◌≤◌, ◌<◌, ◌≡◌, length, take, drop, get_or, leb, eqb}
use Rattle.std.proofs.Common.{arith, sym, ap, ◌∙◌, length-append, take-append-drop, le-leb, eq-eqb, ne_eqb, eqb-true}
use Rattle.std.proofs.Math.Path.{refl}
use mathlib.Core.List.Permᴰ
use mathlib.Core.List.{
  List,
  [],
  ◌∷◌,
  ◌++◌,
  Permᴰ,
}
use Rattle.std.proofs.lemmas.Bool.{lt-leb, eqb-false}
use Rattle.bitstream.specs.Bits.Laws.{below-cons, below-head, below-tail}
use Rattle.bitstream.specs.Bits.{Below}
use Rattle.row_format.specs.Lists.Laws.{by-test}
use Rattle.table_listing.specs.Order.{way, picked, order}

-- ---- the three ways
pub way-ended : (d : ℕ) (bits : List ℕ) → length bits ≤ d → way d bits ≡ 0
unfolding way
way-ended d bits h = rw (le-leb (length bits) d h)

pub way_on : (d : ℕ) (bits : List ℕ) → d < length bits → way d bits ≡ 1 + get_or bits d 0
unfolding way
way_on d bits h = rw (lt-leb (length bits) d h)

pub way-most : (d : ℕ) (bits : List ℕ) → Below 2 bits → way d bits < 3
unfolding way
way-most d bits h = by-test (leb (length bits) d) (λ e. rw e (omega arith)) (λ e. rw e (omega (arith, h.below d)))

-- ---- the places that go one way
module _ (s : ℕ → List ℕ) (d k : ℕ) where
  pub picked-some : (p : ℕ) (ps : List ℕ) → way d (s p) ≡ k → picked s d k (p ∷ ps) ≡ p ∷ picked s d k ps
  unfolding picked
  picked-some p ps e = rw (eq-eqb (way d (s p)) k e)

  pub picked-other : (p : ℕ) (ps : List ℕ) → (way d (s p) ≡ k → ⊥) → picked s d k (p ∷ ps) ≡ picked s d k ps
  unfolding picked
  picked-other p ps e = rw (ne_eqb (way d (s p)) k e)

  -- the two cases
  pub by_way : {A : Type 0} (p : ℕ) → (way d (s p) ≡ k → A) → ((way d (s p) ≡ k → ⊥) → A) → A
  by_way p same other = by-test (eqb (way d (s p)) k) (λ e. same (eqb-true (way d (s p)) k e)) (λ e. other (eqb-false (way d (s p)) k e))

  pub picked-append : (ps qs : List ℕ) → picked s d k (ps ++ qs) ≡ picked s d k ps ++ picked s d k qs
  picked-append [] qs = unfold picked in refl
  picked-append (p ∷ ps) qs =
      by_way p
      (λ e. picked-some p (ps ++ qs) e ∙ rw (picked-some p ps e, picked-append ps qs))
      (λ e. picked-other p (ps ++ qs) e ∙ rw (picked-other p ps e, picked-append ps qs))

  pub picked-take : (i : ℕ) (ps : List ℕ) → length (picked s d k (take i ps)) ≤ length (picked s d k ps)
  picked-take i ps =
      let whole : length (picked s d k ps) ≡ length (picked s d k (take i ps)) + length (picked s d k (drop i ps)) =
      ap (λ (l : List ℕ). length (picked s d k l)) (sym (take-append-drop i ps))
      ∙ ap length (picked-append (take i ps) (drop i ps))
      ∙ length-append (picked s d k (take i ps)) (picked s d k (drop i ps)) in
      omega arith

  pub picked-below : (n : ℕ) (ps : List ℕ) → Below n ps → Below n (picked s d k ps)
  picked-below n [] h = unfold picked in h
  picked-below n (p ∷ ps) h =
      by_way p
      (λ e. rw (picked-some p ps e) (below-cons (below-head h) (picked-below n ps (below-tail h))))
      (λ e. rw (picked-other p ps e) (picked-below n ps (below-tail h)))

-- ---- tree order
pub order-none : (s : ℕ → List ℕ) (left d : ℕ) → order s left d [] ≡ []
unfolding order
order-none s zero d = refl
order-none s (suc left) d = refl

pub order-suc : (s : ℕ → List ℕ) (left d : ℕ) (ps : List ℕ)
    → order s (suc left) d ps ≡ picked s d 0 ps ++ order s left (suc d) (picked s d 1 ps) ++ order s left (suc d) (picked s d 2 ps)
unfolding order picked
order-suc s left d [] = rw (order-none s left (suc d))
order-suc s left d (p ∷ ps) = refl

-- ---- of strings of bits each place goes one of the three ways
module _ (s : ℕ → List ℕ) (bits : (p : ℕ) → Below 2 (s p)) where
  pub by_three : {A : Type 0} (d p : ℕ) → (way d (s p) ≡ 0 → A) → (way d (s p) ≡ 1 → A) → (way d (s p) ≡ 2 → A) → A
  by_three {A} d p f g h = go (way d (s p)) refl (way-most d (s p) (bits p))
    where
      go : (k : ℕ) → way d (s p) ≡ k → k < 3 → A
      go zero e l = f e
      go (suc zero) e l = g e
      go (suc (suc zero)) e l = h e
      go (suc (suc (suc k))) e l = absurd (omega arith)

  -- the three picks of a list whose first place goes a known way
  module _ (d p : ℕ) (ps : List ℕ) where
    to-ends : way d (s p) ≡ 0
        → picked s d 0 (p ∷ ps) ++ picked s d 1 (p ∷ ps) ++ picked s d 2 (p ∷ ps)
        ≡ (p ∷ picked s d 0 ps) ++ picked s d 1 ps ++ picked s d 2 ps
    to-ends e = rw (picked-some s d 0 p ps e, picked-other s d 1 p ps (λ q. omega arith), picked-other s d 2 p ps (λ q. omega arith))

    to-zeros : way d (s p) ≡ 1
        → picked s d 0 (p ∷ ps) ++ picked s d 1 (p ∷ ps) ++ picked s d 2 (p ∷ ps)
        ≡ picked s d 0 ps ++ (p ∷ picked s d 1 ps) ++ picked s d 2 ps
    to-zeros e = rw (picked-some s d 1 p ps e, picked-other s d 0 p ps (λ q. omega arith), picked-other s d 2 p ps (λ q. omega arith))

    to-ones : way d (s p) ≡ 2
        → picked s d 0 (p ∷ ps) ++ picked s d 1 (p ∷ ps) ++ picked s d 2 (p ∷ ps)
        ≡ picked s d 0 ps ++ picked s d 1 ps ++ (p ∷ picked s d 2 ps)
    to-ones e = rw (picked-some s d 2 p ps e, picked-other s d 0 p ps (λ q. omega arith), picked-other s d 1 p ps (λ q. omega arith))

  pub parted-perm : (d : ℕ) (ps : List ℕ) → Permᴰ (picked s d 0 ps ++ picked s d 1 ps ++ picked s d 2 ps) ps
  parted-perm d [] = unfold picked in Permᴰ.nil
  parted-perm d (p ∷ ps) =
      let rest = Permᴰ.cons {a = p} refl (parted-perm d ps) in
      by_three d p
      (λ e. rw (to-ends d p ps e) rest)
      (λ e.
      rw (to-zeros d p ps e)
      (Permᴰ.trans (Permᴰ.append_right (picked s d 2 ps) (Permᴰ.middle p (picked s d 0 ps) (picked s d 1 ps))) rest))
      (λ e. rw (to-ones d p ps e) (Permᴰ.trans (Permᴰ.middle p (picked s d 0 ps ++ picked s d 1 ps) (picked s d 2 ps)) rest))

  -- tree order leaves no place out and adds none
  pub order-perm : (left d : ℕ) (ps : List ℕ) → Permᴰ (order s left d ps) ps
  order-perm zero d ps = unfold order in Permᴰ.refl ps
  order-perm (suc left) d ps =
      rw (order-suc s left d ps)
      (Permᴰ.trans
      (Permᴰ.trans
      (Permᴰ.append_right (order s left (suc d) (picked s d 2 ps))
      (Permᴰ.append_left (picked s d 0 ps) (order-perm left (suc d) (picked s d 1 ps))))
      (Permᴰ.append_left (picked s d 0 ps ++ picked s d 1 ps) (order-perm left (suc d) (picked s d 2 ps))))
      (parted-perm d ps))
