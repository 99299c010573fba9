-- The words of a row. Definitions only; their laws are in Write/Laws.antt. Assumes nothing.
use Rattle.std.specs.Prelude.{ℕ, ◌≡◌, List, ◌++◌, length, drop}
use Rattle.row_format.specs.Row.{row_bits, row_bytes}
pub mod Laws

-- the memory m with a row's words at its front
abbrev pub row_written : List ℕ → List ℕ → List ℕ → List ℕ
row_written t ps m = row_bytes t ps ++ drop (length (row_bytes t ps)) m

-- after the row was written: m was the memory, o it is now, and the answer is r
pub record Written (t ps m o : List ℕ) (r : ℕ) : Type 0 where
  pub memory : o ≡ row_written t ps m
  pub bits : r ≡ length (row_bits t ps)
