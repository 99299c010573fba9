-- Bytes in memory. Definitions only; their laws are in Memory/. Assumes nothing.
use Rattle.std.specs.Prelude.{ℕ, ◌+◌, ◌<◌, ◌≡◌, List, ◌++◌, length, take, drop, get_or}
pub mod Laws
pub mod Part

-- r is the byte at a place of the memory m, 0 past its end
pub record ByteAt (m : List ℕ) (at r : ℕ) : Type 0 where
  pub value : r ≡ get_or m at 0
  pub small : r < 256

-- the bytes b stand at a place of the memory m, the rest is as it was
abbrev pub overwritten : List ℕ → ℕ → List ℕ → List ℕ
overwritten m at b = take at m ++ b ++ drop (at + length b) m
