-- A test that strings are free of prefixes, for tables that are constants: it forks on the next bit, so that it looks at
-- each bit once, where `clash` looks at each pair (515 codewords: 0.2 s). Of a table t that is written out,
-- `apart-clash 27 (codewords t) refl` shows `clash (codewords t) ≡ false`, under
-- `unfolding codewords codeword digits apart few ended branch any`. Laws, and what they need. Assumes nothing.
use Rattle.std.specs.Prelude.{ℕ, zero, suc, Bool, true, false, cond, not, ◌&&◌, ◌||◌, List, [], ◌∷◌, ◌≡◌, refl, eqb, length}
use Rattle.std.proofs.Common.{zero-lt-suc, true≢false, sym, ◌∙◌}
use Rattle.std.specs.Bool.{beq}
use Rattle.std.proofs.lemmas.Bool.{false≢true}
use Rattle.std.proofs.Math.Bool.{and-eq-true_iff, and-false}
use Rattle.row_format.specs.Lists.{any}
use Rattle.bitstream.specs.Bits.{begins}
use Rattle.row_format.specs.Table.{clash}
use Rattle.row_format.specs.Lists.Laws.{or-false-left, or-false-right}
use Rattle.prefix_free.specs.Branch.Pairs.{meets, or-none, meets-false}

-- at most one string
unfoldable pub few : List (List ℕ) → Bool
few [] = true
few (s ∷ []) = true
few (s ∷ u ∷ ss) = false

unfoldable pub ended : List ℕ → Bool
ended [] = true
ended (x ∷ s) = false

-- what follows the first bit in the strings in which that is 0 (true), or is another (false)
unfoldable pub branch : Bool → List (List ℕ) → List (List ℕ)
branch b [] = []
branch b ([] ∷ ss) = branch b ss
branch b ((x ∷ s) ∷ ss) = let q : List (List ℕ) = branch b ss in cond (beq (eqb x 0) b) (s ∷ q) q

-- no string begins another, as d bits of each suffice to see. `q` is computed only where two strings are left
unfoldable pub apart : ℕ → List (List ℕ) → Bool
apart zero ss = few ss
apart (suc d) ss =
    let q : Bool = not (any ended ss) && (apart d (branch true ss) && apart d (branch false ss)) in
    few ss || q

few-clash : (ss : List (List ℕ)) → few ss ≡ true → clash ss ≡ false
unfolding few clash any
few-clash [] e = refl
few-clash (s ∷ []) e = refl
few-clash (s ∷ u ∷ ss) e = absurd (false≢true e)

beq-refl : (b : Bool) → beq b b ≡ true
beq-refl true = refl
beq-refl false = refl

-- strings that begin with the same bit meet only where what follows it meets
meets-cons : (x y : ℕ) (s u : List ℕ) → meets s u ≡ false → meets (x ∷ s) (y ∷ u) ≡ false
unfolding begins
meets-cons x y s u e =
    rw (or-false-left (begins s u) (begins u s) e, or-false-right (begins s u) (begins u s) e)
    (or-none (eqb x y && false) (eqb y x && false) (and-false (eqb x y)) (and-false (eqb y x)))

-- those that begin with different bits never meet
meets-fork : (x y : ℕ) (s u : List ℕ) → beq (eqb y 0) (eqb x 0) ≡ false → meets (x ∷ s) (y ∷ u) ≡ false
meets-fork x y s u e =
    meets-false 0 (x ∷ s) (y ∷ u) (zero-lt-suc (length s)) (zero-lt-suc (length u))
    (λ (p : x ≡ y). true≢false (sym (beq-refl (eqb y 0)) ∙ (rw p at e)))

-- a string u that is on the branch (c) is among those that s meets; one that is not cannot meet it
branch-step : (c : Bool) (x y : ℕ) (s u : List ℕ) (ss : List (List ℕ)) → (c ≡ false → meets (x ∷ s) (y ∷ u) ≡ false)
    → any (meets s) (cond c (u ∷ ss) ss) ≡ false → (meets (x ∷ s) (y ∷ u) ≡ false) × (any (meets s) ss ≡ false)
unfolding any
branch-step true x y s u ss f h =
    (meets-cons x y s u (or-false-left (meets s u) (any (meets s) ss) h), or-false-right (meets s u) (any (meets s) ss) h)
branch-step false x y s u ss f h = (f refl, h)

-- a string that meets none of its own branch meets none at all
branch-none : (x : ℕ) (s : List ℕ) (ss : List (List ℕ)) → any ended ss ≡ false → any (meets s) (branch (eqb x 0) ss) ≡ false
    → any (meets (x ∷ s)) ss ≡ false
unfolding any branch ended
branch-none x s [] e h = refl
branch-none x s ([] ∷ ss) e h = absurd (true≢false e)
branch-none x s ((y ∷ u) ∷ ss) e h =
    let k = branch-step (beq (eqb y 0) (eqb x 0)) x y s u (branch (eqb x 0) ss) (meets-fork x y s u) h in
    or-none (meets (x ∷ s) (y ∷ u)) (any (meets (x ∷ s)) ss) k.0 (branch-none x s ss e k.1)

clash-rest : (c : Bool) (s : List ℕ) (ss : List (List ℕ)) → clash (cond c (s ∷ ss) ss) ≡ false → clash ss ≡ false
unfolding clash
clash-rest true s ss h = or-false-right (any (meets s) ss) (clash ss) h
clash-rest false s ss h = h

-- where neither branch clashes, nothing does
branch-clash : (ss : List (List ℕ)) → any ended ss ≡ false → ((b : Bool) → clash (branch b ss) ≡ false) → clash ss ≡ false
unfolding any branch ended clash
branch-clash [] e h = refl
branch-clash ([] ∷ ss) e h = absurd (true≢false e)
branch-clash ((x ∷ s) ∷ ss) e h =
    let own : clash (s ∷ branch (eqb x 0) ss) ≡ false = rw (beq-refl (eqb x 0)) at (h (eqb x 0)) in
    or-none (any (meets (x ∷ s)) ss) (clash ss)
    (branch-none x s ss e (or-false-left (any (meets s) (branch (eqb x 0) ss)) (clash (branch (eqb x 0) ss)) own))
    (branch-clash ss e (λ b. clash-rest (beq (eqb x 0) b) s (branch b ss) (h b)))

-- two strings or more, none ended, and both branches pass
fork-passed : (f n p q : Bool) → (f || (not n && (p && q))) ≡ true → (f ≡ false) → (n ≡ false) × (p ≡ true) × (q ≡ true)
fork-passed true n p q e z = absurd (true≢false z)
fork-passed false true p q e z = absurd (false≢true e)
fork-passed false false p q e z = let k = (and-eq-true_iff p q).0 e in (refl, k.0, k.1)

pub apart-clash : (d : ℕ) (ss : List (List ℕ)) → apart d ss ≡ true → clash ss ≡ false
unfolding apart
apart-clash zero ss e = few-clash ss e
apart-clash (suc d) ss e = by-few (few ss) refl (apart-clash d (branch true ss)) (apart-clash d (branch false ss))
  where
    by-few : (f : Bool) → few ss ≡ f → (apart d (branch true ss) ≡ true → clash (branch true ss) ≡ false)
        → (apart d (branch false ss) ≡ true → clash (branch false ss) ≡ false) → clash ss ≡ false
    by-few true z t f = few-clash ss z
    by-few false z t f =
        let k = fork-passed (few ss) (any ended ss) (apart d (branch true ss)) (apart d (branch false ss)) e z in
        branch-clash ss k.0 (elim [ true ↦ t k.1 | false ↦ f k.2 ])
