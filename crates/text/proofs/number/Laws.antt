-- A signed number put, as the code has it in an i32. Assumes nothing.
use Prim.Native.Nat.{ℕ, ◌+◌, ◌<◌}
use native.Mathlib.Omega.{arith}
use mathlib.Core.Path.{◌≡◌, subst}
use mathlib.Core.Bool.{Bool, true, false}
use mathlib.Core.List.{List}
use lib.ListN.{length, set}
use lib.IntN.{ℤ, pos, negsuc, nat_abs}
use lib.Signed.{lt_z}
use borrow.Author.Tests.{ltb-true}
use mir.Val.{SFits, to_z, of_z}
use mir.Syntax.{w32}
use mir.Facts.{to_z-of_z}
use Rattle.text.specs.Put.{Put}
use Rattle.text.specs.Put.Laws.{put_one, put-put}
use Rattle.text.specs.Text.{decimal, integer}

-- ---- the text
negative-text : {m m' : List ℕ} {at r : ℕ} (z : ℤ) → lt_z z (pos 0) ≡ true → at < length m
    → Put (set m at 45) (at + 1) (decimal (nat_abs z)) r m' → Put m at (integer z) r m'
unfolding integer
negative-text (pos n) e h p = absurd (omega (arith, ltb-true n 0 e))
negative-text {m} {m'} {at} {r} (negsuc n) e h p = put-put (omega arith) (put_one m at 45 h) p

positive-text : {m m' : List ℕ} {at r : ℕ} (z : ℤ) → lt_z z (pos 0) ≡ false → Put m at (decimal (nat_abs z)) r m' → Put m at (integer z) r m'
unfolding integer
positive-text (pos n) e p = p
positive-text (negsuc n) e p = absurd (let q : ◌≡◌ {A = ℕ} 0 1 = cc in omega arith)

-- ---- a number in an i32
module _ (z : ℤ) (f : SFits w32 z) where
  tested : {b : Bool} → lt_z (to_z w32 (of_z w32 z)) (pos 0) ≡ b → lt_z z (pos 0) ≡ b
  tested {b} e = subst (λ (x : ℤ). lt_z x (pos 0) ≡ b) (to_z-of_z f) e

  module _ (e : lt_z (to_z w32 (of_z w32 z)) (pos 0) ≡ true) where
    pub put-negative : {m m' : List ℕ} {at r : ℕ} (n : ℕ) → n ≡ nat_abs (to_z w32 (of_z w32 z)) → at < length m
        → Put (set m at 45) (at + 1) (decimal n) r m' → Put m at (integer z) r m'
    put-negative n q h p = negative-text z (tested e) h (rw (q, to_z-of_z f) at p)

  module _ (e : lt_z (to_z w32 (of_z w32 z)) (pos 0) ≡ false) where
    pub put-positive : {m m' : List ℕ} {at r : ℕ} (n : ℕ) → n ≡ nat_abs (to_z w32 (of_z w32 z)) → Put m at (decimal n) r m'
        → Put m at (integer z) r m'
    put-positive n q p = positive-text z (tested e) (rw (q, to_z-of_z f) at p)
