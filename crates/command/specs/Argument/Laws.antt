-- The laws of an argument's bytes. Assumes nothing.
use Rattle.std.specs.Prelude.{ℕ, ◌≡◌, refl, false, List, [], ◌∷◌, length, get_or, eqb}
use Rattle.std.proofs.Common.{arith}

-- no byte is the first of none
pub first-of-none : (s : List ℕ) → length s ≡ 0 → eqb (get_or s 0 0) 45 ≡ false
first-of-none [] e = refl
first-of-none (x ∷ s) e = absurd (omega arith)
