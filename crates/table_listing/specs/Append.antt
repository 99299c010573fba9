-- A line put where it fits. Definitions only. Assumes nothing.
use Rattle.std.specs.Prelude.{ℕ, ◌+◌, ◌≤◌, ◌<◌, ◌≡◌, List, length}
use Rattle.text.specs.Put.{Put}

-- the line l fits at a place of the memory m and is put there, and r is the place after it
pub record LineFits (m : List ℕ) (at : ℕ) (l : List ℕ) (r : ℕ) (m' : List ℕ) : Type 0 where
  pub fits : at + length l ≤ length m
  pub put : Put m at l r m'

-- it does not fit, and nothing is written
pub record LineOver (m : List ℕ) (at : ℕ) (l : List ℕ) (m' : List ℕ) : Type 0 where
  pub over : length m < at + length l
  pub kept : m' ≡ m
