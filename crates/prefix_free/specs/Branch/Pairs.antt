-- Strings of which one begins another, pair by pair, and their laws. Assumes nothing.
use Rattle.std.specs.Prelude.{ℕ, zero, suc, ◌≤◌, ◌<◌, ◌≡◌, refl, Bool, true, false, ◌||◌, List, [], ◌∷◌, ◌++◌, length, take, get_or, eqb}
use Rattle.std.proofs.Common.{suc-le-suc, le_of_suc-le-suc, not-suc-le-zero, zero-lt-suc, sym, eq-eqb, eqb-true}
use Rattle.std.proofs.Math.Bool.{or_assoc, or-false, and-eq-true_iff}
use Rattle.std.proofs.lemmas.Bool.{false≢true}
use Rattle.bitstream.specs.Bits.{begins}
use Rattle.row_format.specs.Lists.{any}
use Rattle.row_format.specs.Table.{clash}
use Rattle.row_format.specs.Lists.Laws.{any_append, any_false}

-- one of two strings begins the other, or they are equal
abbrev pub meets : List ℕ → List ℕ → Bool
meets s u = begins s u || begins u s

-- ---- truth values
pub or-none : (a b : Bool) → a ≡ false → b ≡ false → (a || b) ≡ false
or-none true b p q = p
or-none false b p q = q

pub not-false-true : (b : Bool) → (b ≡ false → ⊥) → b ≡ true
not-false-true true h = refl
not-false-true false h = absurd (h refl)

pub not-true-false : (b : Bool) → (b ≡ true → ⊥) → b ≡ false
not-true-false true h = absurd (h refl)
not-true-false false h = refl

-- two tests that fail together are equal
pub same_test : (a b : Bool) → (a ≡ false → b ≡ false) → (b ≡ false → a ≡ false) → a ≡ b
same_test true true f g = refl
same_test true false f g = g refl
same_test false b f g = sym (f refl)

-- ---- which strings meet
-- a string that has ended where another still agrees with it begins the other
pub begins-take : (d : ℕ) (s u : List ℕ) → take d s ≡ take d u → length s ≤ d → begins s u ≡ true
unfolding begins
begins-take d [] u e h = refl
begins-take zero (x ∷ s) u e h = absurd (not-suc-le-zero h)
begins-take (suc d) (x ∷ s) [] e h = cc
begins-take (suc d) (x ∷ s) (y ∷ u) e h =
    let t : take d s ≡ take d u = cc in
    rw (eq-eqb x y (cc)) (begins-take d s u t (le_of_suc-le-suc h))

pub begins-at : (d : ℕ) (s u : List ℕ) → begins s u ≡ true → d < length s → get_or s d 0 ≡ get_or u d 0
unfolding begins
begins-at d [] u e h = absurd (not-suc-le-zero h)
begins-at d (x ∷ s) [] e h = absurd (false≢true e)
begins-at zero (x ∷ s) (y ∷ u) e h = eqb-true x y ((and-eq-true_iff (eqb x y) (begins s u)).0 e).0
begins-at (suc d) (x ∷ s) (y ∷ u) e h =
    begins-at d s u ((and-eq-true_iff (eqb x y) (begins s u)).0 e).1 (le_of_suc-le-suc h)

-- strings that differ at a place that both have
pub meets-false : (d : ℕ) (s u : List ℕ) → d < length s → d < length u → (get_or s d 0 ≡ get_or u d 0 → ⊥) → meets s u ≡ false
meets-false d s u hs hu n =
    or-none (begins s u) (begins u s)
    (not-true-false (begins s u) (λ e. n (begins-at d s u e hs)))
    (not-true-false (begins u s) (λ e. n (sym (begins-at d u s e hu))))

-- ---- lists
pub clash-few : (ss : List (List ℕ)) → length ss < 2 → clash ss ≡ false
unfolding clash any
clash-few [] h = refl
clash-few (s ∷ []) h = refl
clash-few (s ∷ u ∷ ss) h = absurd (not-suc-le-zero (le_of_suc-le-suc (le_of_suc-le-suc h)))

pub clash-append : (ss us : List (List ℕ))
    → ((i j : ℕ) → i < length ss → j < length us → meets (get_or ss i []) (get_or us j []) ≡ false)
    → clash (ss ++ us) ≡ (clash ss || clash us)
unfolding clash
clash-append [] us h = refl
clash-append (s ∷ ss) us h =
    let none : any (meets s) us ≡ false = any_false (meets s) us [] (λ j b. h 0 j (zero-lt-suc (length ss)) b) in
    let rest : clash (ss ++ us) ≡ (clash ss || clash us) = clash-append ss us (λ i j hi hj. h (suc i) j (suc-le-suc hi) hj) in
    rw (any_append (meets s) ss us, none, rest, or-false (any (meets s) ss)) (sym (or_assoc (any (meets s) ss) (clash ss) (clash us)))
