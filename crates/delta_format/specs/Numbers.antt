-- Signed little-endian numbers of w bits, and how far above and below zero they reach. Definitions only; their laws are in Numbers/.
-- Assumes nothing.
use Rattle.std.specs.Prelude.{ℕ, suc, ◌-◌, ◌*◌, ◌/◌, ◌^◌, Bool, cond, ◌&&◌, List, map, length, ltb, ℤ, pos, negsuc, ◌-ℤ◌}
use Rattle.std.specs.Int.Signed.{le_z}
use Rattle.bitstream.specs.Bits.{cut, bits_of}
pub mod Laws

-- half of the numbers of w bits: so many are negative
abbrev pub half_of : ℕ → ℕ
half_of w = 2 ^ (w - 1)

-- "MAX represents the largest positive integer value that can be represented"
abbrev pub max_of : ℕ → ℤ
max_of w = pos (half_of w - 1)

-- the signed number whose w bits are those of u, in two's complement
abbrev pub signed_number : ℕ → ℕ → ℤ
signed_number w u = cond (ltb u (half_of w)) (pos u) (pos u -ℤ pos (2 ^ w))

-- the whole elements of some bytes, w bits each; an incomplete one at the end counts for nothing
abbrev pub elements_of : ℕ → List ℕ → List ℤ
elements_of w s = map (signed_number w) (cut w (8 * length s / w) (bits_of s))

-- the w bits of a signed number
abbrev pub bits_for : ℕ → ℤ → ℕ
bits_for w (pos m) = m
bits_for w (negsuc m) = 2 ^ w - suc m

-- "28 a sum leaves 32 bits"
abbrev pub in32 : ℤ → Bool
in32 v = le_z (negsuc 2147483647) v && le_z v (pos 2147483647)
