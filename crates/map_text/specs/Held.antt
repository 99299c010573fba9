-- Counts of a text as they are kept in memory. Definitions only; their laws are in Held/Laws.antt. Assumes nothing.
use Rattle.std.specs.Prelude.{ℕ, ◌*◌, ◌≡◌, List, length, take}
use Rattle.row_format.specs.Row.{pixel_bytes}
pub mod Laws

-- of some counts the first 16385: one more than a map has
unfoldable pub kept : List ℕ → List ℕ
kept xs = take 16385 xs

-- of the counts xs so many are kept, two bytes each, at the front of the memory m
pub record Held (xs : List ℕ) (count : ℕ) (m : List ℕ) : Type 0 where
  pub size : count ≡ length (kept xs)
  pub bytes : take (2 * count) m ≡ pixel_bytes (kept xs)
