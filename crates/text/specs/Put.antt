-- Bytes put into memory, one run after the other. Definitions only; their laws are in Put/Laws.antt. Assumes nothing.
use Rattle.std.specs.Prelude.{ℕ, ◌+◌, ◌≡◌, List, length}
use Rattle.bitstream.specs.Memory.{overwritten}
pub mod Laws

-- b was put at a place of the memory m, which is m' now; r is the place after it
pub record Put (m : List ℕ) (at : ℕ) (b : List ℕ) (r : ℕ) (m' : List ℕ) : Type 0 where
  pub next : r ≡ at + length b
  pub memory : m' ≡ overwritten m at b
