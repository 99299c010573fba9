-- The bytes of a number. Assumes nothing.
use Prim.Native.Nat.{ℕ, suc, ◌+◌, ◌/◌, ◌%◌, ◌^◌}
use native.Mathlib.Nat.{div-div-eq-div-mul}
use native.Mathlib.Omega.{arith}
use mathlib.Core.Path.{◌≡◌, refl, sym, ap, ◌∙◌}
use mathlib.Core.List.{[], ◌∷◌}
use lib.Seq.{take_at, drop_at}
use Rattle.bitstream.specs.Bits.{digits, cut, bytes_of}
use Rattle.bitstream.specs.Bits.Laws.{digits-split, length_digits, num_of-digits}

-- ---- the lowest first
pub cut-digits : (w n k v : ℕ) → cut w (suc n) (digits (w + k) v) ≡ v % 2 ^ w ∷ cut w n (digits k (v / 2 ^ w))
unfolding cut
cut-digits w n k v =
    let rest = digits k (v / 2 ^ w) in
    rw (digits-split w k v, take_at (digits w v) rest w (length_digits w v), drop_at (digits w v) rest w (length_digits w v))
    (rw (num_of-digits w v))

pub two_bytes_lem : (v : ℕ) → bytes_of 2 (digits 16 v) ≡ v % 256 ∷ v / 256 % 256 ∷ []
two_bytes_lem v = cut-digits 8 1 8 v ∙ ap (v % 256 ∷◌) (cut-digits 8 0 0 (v / 256) ∙ unfold cut in refl)

pub four_bytes_lem : (v : ℕ) → bytes_of 4 (digits 32 v) ≡ v % 256 ∷ v / 256 % 256 ∷ v / 65536 % 256 ∷ v / 16777216 % 256 ∷ []
four_bytes_lem v =
    let third : v / 256 / 256 ≡ v / 65536 = div-div-eq-div-mul v 256 256 in
    cut-digits 8 3 24 v
    ∙ ap (v % 256 ∷◌) (cut-digits 8 2 16 (v / 256)
    ∙ ap (v / 256 % 256 ∷◌)
    (two_bytes_lem (v / 256 / 256) ∙ rw third (ap (λ (k : ℕ). v / 65536 % 256 ∷ k % 256 ∷ []) (div-div-eq-div-mul v 65536 256))))

-- two bytes of the low half
pub low-two-bytes : (v : ℕ) → v % 65536 % 256 ∷ v % 65536 / 256 % 256 ∷ [] ≡ bytes_of 2 (digits 16 v)
low-two-bytes v =
    let low : v % 65536 % 256 ≡ v % 256 = omega arith in
    let high : v % 65536 / 256 % 256 ≡ v / 256 % 256 = omega arith in
    rw (low, high) (sym (two_bytes_lem v))
