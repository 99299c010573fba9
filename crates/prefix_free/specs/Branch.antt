-- Words whose codewords lie on one branch of the code tree, and their parting by the next bit. Definitions only; their laws
-- are in Branch/. Assumes nothing.
use Rattle.std.specs.Prelude.{ℕ, ◌+◌, ◌/◌, ◌%◌, ◌^◌, ◌≤◌, ◌<◌, ◌≡◌, Bool, ◌||◌, List, map, length, take, drop, get_or}
use Rattle.row_format.specs.Table.{codeword, clash}
pub mod Laws
pub mod Pairs
pub mod Fork

-- some codeword of these words equals or begins another
abbrev pub clashes : List ℕ → Bool
clashes l = clash (map codeword l)

-- bit d of a word's codeword, where that is longer than d
abbrev pub bit_at : ℕ → ℕ → ℕ
bit_at d w = w / 32 / 2 ^ d % 2

-- the codewords agree in their first d bits
pub record Agree (d : ℕ) (l : List ℕ) : Type 0 where
  pub same : (i j : ℕ) → i < length l → j < length l → take d (codeword (get_or l i 0)) ≡ take d (codeword (get_or l j 0))

-- each codeword has more than d bits
pub record Longer (d : ℕ) (l : List ℕ) : Type 0 where
  pub longer : (k : ℕ) → k < length l → d < get_or l k 0 % 32

-- r is the length of the shortest of the first n codewords, and 32, which is none's, where n is 0
pub record Shortest (l : List ℕ) (n r : ℕ) : Type 0 where
  pub least : (k : ℕ) → k < n → r ≤ get_or l k 0 % 32
  pub found : r < 32 → (k : ℕ) × (k < n) × (get_or l k 0 % 32 ≡ r)

-- s is left as t, whose first r words and whose rest agree in one bit more; what clashes in s clashes in one of the two
pub record Split (d : ℕ) (s t : List ℕ) (r : ℕ) : Type 0 where
  pub most : r ≤ length t
  pub low : Agree (d + 1) (take r t)
  pub high : Agree (d + 1) (drop r t)
  pub clashing : clashes s ≡ (clashes (take r t) || clashes (drop r t))
