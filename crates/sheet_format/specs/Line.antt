-- Document 01, "A sheet": the numbers of a contour line. In a record they are signed adaptive numbers, one after another; a
-- caller gives and gets them as four bytes each, little-endian and in two's complement.
-- Definitions only. Assumes nothing.
use Rattle.std.specs.Prelude.{ℕ, zero, suc, ◌+◌, ◌-◌, cond, List, [], ◌∷◌, ◌++◌, drop, ltb, ℤ, pos, negsuc}
use Rattle.adaptive.specs.Number.{NumberReading, accepted, rejected, signed_type, read_as, shortest}
pub mod Laws
pub mod Steps

-- ---- two's complement in 32 bits
abbrev pub word_of : ℤ → ℕ
word_of (pos m) = m
word_of (negsuc m) = 4294967295 - m

abbrev pub signed_of : ℕ → ℤ
signed_of w = cond (ltb w 2147483648) (pos w) (negsuc (4294967295 - w))

-- ---- writing: "that many signed adaptive numbers"
unfoldable pub line_bytes : List ℤ → List ℕ
line_bytes [] = []
line_bytes (v ∷ vs) = shortest signed_type v ++ line_bytes vs

-- ---- reading so many numbers: their values and the bytes used, or the number of the refusal, "12 or 13 at the earliest
-- number"
pub data Line : Type 0 where
  numbers : List ℤ → ℕ → Line
  faulty : ℕ → Line

abbrev pub prepend : ℤ → ℕ → Line → Line
prepend v u (numbers vs w) = numbers (v ∷ vs) (u + w)
prepend v u (faulty e) = faulty e

abbrev pub follow : NumberReading ℤ → (ℕ → Line) → Line
follow (accepted v u) f = prepend v u (f u)
follow (rejected e) f = faulty e

unfoldable pub read_line : ℕ → List ℕ → Line
read_line zero s = numbers [] 0
read_line (suc n) s = follow (read_as signed_type s) (λ u. read_line n (drop u s))
