-- Bits in bytes, the most significant bit of byte 0 first. A bit is the number 0 or 1. Definitions only; their laws are in
-- Msb/Laws.antt. Assumes nothing.
use Rattle.std.specs.Prelude.{ℕ, zero, suc, ◌+◌, ◌*◌, ◌/◌, ◌%◌, ◌^◌, List, [], ◌∷◌, ◌++◌, length, drop}
use Rattle.bitstream.specs.Bits.{pad}
pub mod Laws

-- the w low bits of v, the most significant of them first
unfoldable pub msb_digits : ℕ → ℕ → List ℕ
msb_digits zero v = []
msb_digits (suc w) v = v / 2 ^ w % 2 ∷ msb_digits w v

-- the number whose bits these are, the most significant first
unfoldable pub msb_num : List ℕ → ℕ
msb_num [] = 0
msb_num (b ∷ bs) = b * 2 ^ length bs + msb_num bs

-- the bits of bytes
unfoldable pub msb_bits_of : List ℕ → List ℕ
msb_bits_of [] = []
msb_bits_of (b ∷ s) = msb_digits 8 b ++ msb_bits_of s

-- the n bytes that hold these bits, padded with 0
unfoldable pub msb_bytes_of : ℕ → List ℕ → List ℕ
msb_bytes_of zero b = []
msb_bytes_of (suc n) b = msb_num (pad 8 b) ∷ msb_bytes_of n (drop 8 b)

-- n bits rounded up to whole bytes
abbrev pub bytes_for : ℕ → ℕ
bytes_for n = (n + 7) / 8
