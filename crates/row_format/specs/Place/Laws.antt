-- The laws of the place that a refusal shows. Assumes nothing.
use Rattle.std.specs.Prelude.{ℕ, zero, suc, ◌≤◌, ◌≡◌, Bool, true, false, cond}
use Rattle.std.proofs.Common.{arith, ap, le-leb}
use Rattle.row_format.specs.Lists.Laws.{by-test}
use Rattle.row_format.specs.Place.{has_place, place_shown}

-- it is a refusal that shows one
pub has_place-some : (e : ℕ) → has_place e ≡ true → e ≡ 0 → ⊥
has_place-some zero shows none = let one : place_shown 0 1 ≡ 1 = ap (λ (b : Bool). cond b 1 0) shows in omega arith
has_place-some (suc e) shows none = omega arith

pub has_place-true : (e : ℕ) → 6 ≤ e → e ≤ 10 → has_place e ≡ true
has_place-true e low high = rw (le-leb 6 e low, le-leb e 10 high)

pub place_shown-same : (e p : ℕ) → has_place e ≡ true → place_shown e p ≡ p
place_shown-same e p h = rw h

pub place_shown-none : (e p : ℕ) → has_place e ≡ false → place_shown e p ≡ 0
place_shown-none e p h = rw h

pub place_shown-zero : (e : ℕ) → place_shown e 0 ≡ 0
place_shown-zero e = by-test (has_place e) (λ h. rw h) (λ h. rw h)

pub place_shown-twice : (e p : ℕ) → place_shown e (place_shown e p) ≡ place_shown e p
place_shown-twice e p = by-test (has_place e) (λ h. rw h) (λ h. rw h)
