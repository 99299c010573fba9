-- A map in memory. Definitions only. Assumes nothing.
use Rattle.std.specs.Prelude.{ℕ, ◌*◌, ◌^◌, ◌≡◌, List, length, take, drop}
use Rattle.bitstream.specs.Msb.{bytes_for}
use Rattle.map_format.specs.Calls.{map_bits, map_bytes}

-- the pixels of group i, k the bits of a position
abbrev pub group_at : ℕ → ℕ → List ℕ → List ℕ
group_at k i xs = take (2 ^ k) (drop (2 ^ k * i) xs)

-- the memory begins with the bytes of a map; n is the count of its bits
pub record MapPut (k : ℕ) (xs out : List ℕ) (n : ℕ) : Type 0 where
  pub bits : n ≡ length (map_bits k xs)
  pub front : take (bytes_for n) out ≡ map_bytes k xs
