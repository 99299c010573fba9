-- What the code's tests and operations on an i32 give. A signed local holds bits, so a value v is read back as
-- `to_z w32 (of_z w32 v)`. Assumes nothing.
use Prim.Native.Nat.{ℕ}
use mathlib.Core.Path.{◌≡◌, ap, ◌∙◌, subst}
use mathlib.Core.Bool.{Bool}
use lib.IntN.{ℤ, pos}
use lib.Signed.{lt_z}
use mir.Syntax.{w32}
use mir.Val.{SFits, to_z, of_z}
use mir.Facts.{to_z-of_z}

-- the code's test of a sign
pub tested : {v : ℤ} {t : Bool} → SFits w32 v → lt_z (to_z w32 (of_z w32 v)) (pos 0) ≡ t → lt_z v (pos 0) ≡ t
tested {v} {t} f e = subst (λ (z : ℤ). lt_z z (pos 0) ≡ t) (to_z-of_z f) e

-- what a callee answers of v
pub passed : {r : ℕ} {v : ℤ} (g : ℤ → ℕ) → SFits w32 v → r ≡ g (to_z w32 (of_z w32 v)) → r ≡ g v
passed g f e = e ∙ ap g (to_z-of_z f)
