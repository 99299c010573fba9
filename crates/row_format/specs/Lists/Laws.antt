-- The laws of tests and of tests over lists. Assumes nothing.
use Rattle.std.specs.Prelude.{ℕ, zero, suc, ◌+◌, ◌-◌, ◌≤◌, ◌<◌, ◌≡◌, Bool, true, false, cond, ◌&&◌, ◌||◌, length, take, drop, get_or}
use Rattle.std.proofs.Math.Nat.{sub-zero, zero-sub, suc-sub-suc}
use Rattle.std.proofs.Common.{arith, ◌∙◌, take-take}
use Rattle.std.proofs.Math.Path.{refl, sym, ap}
use Rattle.std.proofs.Math.Bool.{or_assoc}
use mathlib.Core.List.{List, [], ◌∷◌, ◌++◌}
use Rattle.std.proofs.Math.Seq.{take-nil}
use Rattle.row_format.specs.Lists.{any, least}

-- ---- tests
-- a test's two ways, with what each says
pub by-test : {A : Type 0} (b : Bool) → (b ≡ true → A) → (b ≡ false → A) → A
by-test true yes' no' = yes' refl
by-test false yes' no' = no' refl

pub true-false : {A : Type 0} {b : Bool} → b ≡ true → b ≡ false → A
true-false p q = absurd (let z : ◌≡◌ {A = ℕ} 0 1 = cc in omega arith)

pub and-true-left : (a b : Bool) → (a && b) ≡ true → a ≡ true
and-true-left true b e = refl
and-true-left false b e = e

pub and-true-right : (a b : Bool) → (a && b) ≡ true → b ≡ true
and-true-right true b e = e
and-true-right false b e = true-false e refl

pub and-true-all : (a b c : Bool) → (a && (b && c)) ≡ true → (a ≡ true) × (b ≡ true) × (c ≡ true)
and-true-all true true c e = (refl, refl, e)
and-true-all true false c e = true-false e refl
and-true-all false b c e = true-false e refl

pub or-false-left : (a b : Bool) → (a || b) ≡ false → a ≡ false
or-false-left true b e = e
or-false-left false b e = refl

pub or-false-right : (a b : Bool) → (a || b) ≡ false → b ≡ false
or-false-right true b e = true-false refl e
or-false-right false b e = e

-- a refusal that isn't given: its test failed, and what comes after it isn't given either
pub cond-zero-test : (b : Bool) (e d : ℕ) → cond b (suc e) d ≡ 0 → b ≡ false
cond-zero-test true e d z = absurd (omega arith)
cond-zero-test false e d z = refl

pub cond-zero-rest : (b : Bool) (e d : ℕ) → cond b (suc e) d ≡ 0 → d ≡ 0
cond-zero-rest true e d z = absurd (omega arith)
cond-zero-rest false e d z = z

-- ---- any
module _ {A : Type 0} (f : A → Bool) where
  pub any_append : (a b : List A) → any f (a ++ b) ≡ (any f a || any f b)
  unfolding any
  any_append [] b = refl
  any_append (x ∷ a) b = ap (λ (q : Bool). f x || q) (any_append a b) ∙ sym (or_assoc (f x) (any f a) (any f b))

  pub any-false-head : (x : A) (xs : List A) → any f (x ∷ xs) ≡ false → f x ≡ false
  unfolding any
  any-false-head x xs e = or-false-left (f x) (any f xs) e

  pub any-false-tail : (x : A) (xs : List A) → any f (x ∷ xs) ≡ false → any f xs ≡ false
  unfolding any
  any-false-tail x xs e = or-false-right (f x) (any f xs) e

  pub any-false-at : (xs : List A) (i : ℕ) (d : A) → any f xs ≡ false → i < length xs → f (get_or xs i d) ≡ false
  any-false-at [] i d e h = absurd (omega arith)
  any-false-at (x ∷ xs) zero d e h = any-false-head x xs e
  any-false-at (x ∷ xs) (suc i) d e h = any-false-at xs i d (any-false-tail x xs e) (omega arith)

  pub any_false : (xs : List A) (d : A) → ((i : ℕ) → i < length xs → f (get_or xs i d) ≡ false) → any f xs ≡ false
  unfolding any
  any_false [] d each = refl
  any_false (x ∷ xs) d each = rw (each 0 (omega arith)) (any_false xs d (λ i h. each (suc i) (omega arith)))

-- ---- least
-- where the test passes at 0, and where it doesn't
least_zero : (f : ℕ → Bool) (n : ℕ) → f 0 ≡ true → least f n ≡ 0
unfolding least
least_zero f zero e = refl
least_zero f (suc n) e = rw e

least-suc : (f : ℕ → Bool) (n : ℕ) → f 0 ≡ false → least f (suc n) ≡ suc (least (λ k. f (suc k)) n)
unfolding least
least-suc f n e = rw e

pub least-within : (f : ℕ → Bool) (n : ℕ) → least f n ≤ n
unfolding least
least-within f zero = omega arith
least-within f (suc n) =
    let rest = least-within (λ k. f (suc k)) n in
    by-test (f 0) (λ e. omega (arith, least_zero f (suc n) e)) (λ e. omega (arith, least-suc f n e))

pub least-most : (f : ℕ → Bool) (n k : ℕ) → f k ≡ true → least f n ≤ k
unfolding least
least-most f zero k e = omega arith
least-most f (suc n) zero e = omega (arith, least_zero f (suc n) e)
least-most f (suc n) (suc k) e =
    let rest = least-most (λ j. f (suc j)) n k e in
    by-test (f 0) (λ z. omega (arith, least_zero f (suc n) z)) (λ z. omega (arith, least-suc f n z))

-- two tests that agree as far as a number that passes have the same least
pub least-same : (f g : ℕ → Bool) (m n k : ℕ) → k ≤ m → k ≤ n → ((j : ℕ) → j ≤ k → f j ≡ g j) → f k ≡ true
    → least f m ≡ least g n
unfolding least
least-same f g m n zero hm hn same e = least_zero f m e ∙ sym (least_zero g n (sym (same 0 (omega arith)) ∙ e))
least-same f g zero n (suc k) hm hn same e = absurd (omega arith)
least-same f g (suc m) zero (suc k) hm hn same e = absurd (omega arith)
least-same f g (suc m) (suc n) (suc k) hm hn same e =
    let rest : least (λ j. f (suc j)) m ≡ least (λ j. g (suc j)) n =
    least-same (λ j. f (suc j)) (λ j. g (suc j)) m n k (omega arith) (omega arith) (λ j h. same (suc j) (omega arith)) e in
    rw (same 0 (omega arith), rest)

-- ---- a part of what stands in front
pub drop-take : (n k : ℕ) (l : List ℕ) → drop n (take k l) ≡ take (k - n) (drop n l)
drop-take zero k l = rw (sub-zero k)
drop-take (suc n) zero l = rw (zero-sub (suc n))
drop-take (suc n) (suc k) [] = sym (take-nil (suc k - suc n))
drop-take (suc n) (suc k) (x ∷ l) = drop-take n k l ∙ rw (suc-sub-suc k n)

pub field-take : (at n k : ℕ) (l : List ℕ) → at + n ≤ k → take n (drop at (take k l)) ≡ take n (drop at l)
field-take at n k l h = rw (drop-take at k l) (take-take n (k - at) (drop at l) (omega arith))
