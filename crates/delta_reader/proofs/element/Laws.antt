-- The widths that are read. Assumes nothing.
use Prim.Native.Nat.{ℕ}
use mathlib.Core.Path.{◌≡◌, refl}
use borrow.Author.Tests.{ne_eqb}
use Rattle.delta_format.specs.Calls.{width_number}

pub width-8 : {w : ℕ} → w ≡ 8 → 0 ≡ width_number w
unfolding width_number
width-8 e = rw e refl

pub width-16 : {w : ℕ} → w ≡ 16 → 0 ≡ width_number w
unfolding width_number
width-16 e = rw e refl

pub width-32 : {w : ℕ} → w ≡ 32 → 0 ≡ width_number w
unfolding width_number
width-32 e = rw e refl

pub width-other : (w : ℕ) → (w ≡ 8 → ⊥) → (w ≡ 16 → ⊥) → (w ≡ 32 → ⊥) → 14 ≡ width_number w
unfolding width_number
width-other w a b c = rw (ne_eqb w 8 a, ne_eqb w 16 b, ne_eqb w 32 c) refl

pub width-counts : width_number 32 ≡ 0
unfolding width_number
width-counts = refl
