-- Bits in bytes. A slice of bytes is a stream of bits, the lowest bit of byte 0 first; for little-endian words this is
-- document 01's order, "bit 0 of word 0, then upward, then to the next word". A bit is the number 0 or 1.
-- Definitions only; their laws are in Bits/Laws.antt. Assumes nothing.
use Rattle.std.specs.Prelude.{ℕ, zero, suc, ◌+◌, ◌*◌, ◌/◌, ◌%◌, ◌<◌, Bool, true, false, ◌&&◌, List, [], ◌∷◌, ◌++◌, length, take, drop, get_or, eqb}
pub mod Laws

-- the w low bits of v, the lowest first
unfoldable pub digits : ℕ → ℕ → List ℕ
digits zero v = []
digits (suc w) v = v % 2 ∷ digits w (v / 2)

-- the number whose bits these are, the lowest first
unfoldable pub num_of : List ℕ → ℕ
num_of [] = 0
num_of (b ∷ bs) = num_of bs * 2 + b

-- w bits of each number, one number after the other
unfoldable pub flat : ℕ → List ℕ → List ℕ
flat w [] = []
flat w (x ∷ xs) = digits w x ++ flat w xs

-- n numbers of w bits each from the front of a stream; bits past its end count as 0
unfoldable pub cut : ℕ → ℕ → List ℕ → List ℕ
cut w zero b = []
cut w (suc n) b = num_of (take w b) ∷ cut w n (drop w b)

-- the bits of bytes
abbrev pub bits_of : List ℕ → List ℕ
bits_of s = flat 8 s

-- the little-endian number that some bytes hold
abbrev pub number_of : List ℕ → ℕ
number_of s = num_of (bits_of s)

-- the n bytes that hold these bits, padded with 0
abbrev pub bytes_of : ℕ → List ℕ → List ℕ
bytes_of n b = cut 8 n b

-- the whole little-endian 32-bit words, and the whole 16-bit numbers, of some bytes; an incomplete one at the end counts
-- for nothing
abbrev pub words_of : List ℕ → List ℕ
words_of s = cut 32 (length s / 4) (bits_of s)

abbrev pub halves_of : List ℕ → List ℕ
halves_of s = cut 16 (length s / 2) (bits_of s)

-- the bits of the whole words of some bytes
abbrev pub stream : List ℕ → List ℕ
stream s = bits_of (take (4 * (length s / 4)) s)

-- n bits rounded up to whole words
abbrev pub words_for : ℕ → ℕ
words_for n = (n + 31) / 32

-- the first string begins the second, or equals it
unfoldable pub begins : List ℕ → List ℕ → Bool
begins [] r = true
begins (b ∷ s) [] = false
begins (b ∷ s) (c ∷ r) = let q : Bool = begins s r in eqb b c && q

-- every element of the list is below k: of bits below 2, of bytes below 256
pub record Below (k : ℕ) (xs : List ℕ) : Type 0 where
  pub below : (i : ℕ) → get_or xs i 0 < k

-- the first k bits of a stream, 0 past its end
abbrev pub pad : ℕ → List ℕ → List ℕ
pad zero b = []
pad (suc k) [] = 0 ∷ pad k []
pad (suc k) (x ∷ b) = x ∷ pad k b
