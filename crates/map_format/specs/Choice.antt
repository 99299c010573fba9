-- Document 02's ticket 3, "choosing the first of the four codes that fits and the lower position first", said of groups and of bits
-- without the writing: which codes fit a group, and which bits have a higher position first. k is the bits of a position, b the bits
-- that are left. Definitions only. Assumes nothing.
use Rattle.std.specs.Prelude.{ℕ, zero, suc, ◌^◌, ◌≤◌, ◌<◌, ◌≡◌, Bool, false, ◌||◌, List, [], ◌∷◌, ◌++◌, ◌↔◌, length, take, drop, get_or, ltb}
use Rattle.bitstream.specs.Bits.{Below}
use Rattle.bitstream.specs.Msb.{msb_num}
use Rattle.map_format.specs.Reading.{Parse, stops, got, Code, zeros, one, two, direct, read_code, read_group, sum}
use Rattle.map_format.specs.Writing.{pixels_bits, positions, positions_bits}

-- "four Huffman codes: 1, 01, 001, and 000"
abbrev pub code_bits : Code → List ℕ
code_bits zeros = 1 ∷ []
code_bits one = 0 ∷ 1 ∷ []
code_bits two = 0 ∷ 0 ∷ 1 ∷ []
code_bits direct = 0 ∷ 0 ∷ 0 ∷ []

-- which groups each is for: "zero-valued pixels", "just one photon", "two photons", "at least three photons altogether"
abbrev pub CodeFits : Code → List ℕ → Type 0
CodeFits zeros xs = (i : ℕ) → get_or xs i 0 ≡ 0
CodeFits one xs = sum xs ≡ 1
CodeFits two xs = sum xs ≡ 2
CodeFits direct xs = 3 ≤ sum xs

-- what follows a code: "the zeroes are not actually present in the file"; "position nn"; "positions nn and mm"; the pixels
abbrev pub body_bits : ℕ → Code → List ℕ → List ℕ
body_bits k zeros xs = []
body_bits k one xs = positions_bits k (positions 0 xs)
body_bits k two xs = positions_bits k (positions 0 xs)
body_bits k direct xs = pixels_bits xs

-- "Pixels greater than 17" alone
abbrev pub Wide : List ℕ → Type 0
Wide xs = (i : ℕ) → i < length xs → 17 < get_or xs i 0

-- no group of the first n has more than two photons
abbrev pub Sparse : ℕ → ℕ → List ℕ → Type 0
Sparse k zero xs = Unit {0}
Sparse k (suc n) xs = (sum (take (2 ^ k) xs) ≤ 2) × Sparse k n (drop (2 ^ k) xs)

-- ---- the order of two positions
-- after a code: of the two positions of 001 the higher comes first
abbrev pub higher_first : ℕ → Parse Code → Bool
higher_first k (stops e) = false
higher_first k (got zeros b) = false
higher_first k (got one b) = false
higher_first k (got two b) = ltb (msb_num (take k (drop k b))) (msb_num (take k b))
higher_first k (got direct b) = false

-- the group that b begins with has code 001 and its higher position first
unfoldable pub swapped : ℕ → List ℕ → Bool
swapped k b = higher_first k (read_code b)

-- the bits after what was read
abbrev pub bits_after : {A : Type 0} → Parse A → List ℕ
bits_after (stops e) = []
bits_after (got v b) = b

-- one of the n groups that b begins with
unfoldable pub any_swapped : ℕ → ℕ → List ℕ → Bool
any_swapped k zero b = false
any_swapped k (suc n) b = swapped k b || any_swapped k n (bits_after (read_group k b))

-- ---- what a reading that is done says of writing: b was read as xs, with r left; `written` are the bits that xs are written in,
-- and `higher` is whether some position came first that is the higher of two
pub record Rewritten (pixels : ℕ) (written : List ℕ) (higher : Bool) (b xs r : List ℕ) : Type 0 where
  pub bits : List ℕ
  -- the bits that were read, and those left
  pub whole : b ≡ bits ++ r
  pub size : length xs ≡ pixels
  pub counts : Below 65536 xs
  -- writing takes as many bits as were read
  pub long : length written ≡ length bits
  -- and the same bits, exactly where no higher position came first
  pub same : (written ≡ bits) ↔ (higher ≡ false)
