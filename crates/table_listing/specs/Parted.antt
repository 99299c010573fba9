-- The places of a list parted by the ways that their strings go. Definitions only. Assumes nothing.
use Rattle.std.specs.Prelude.{ℕ, ◌+◌, ◌≡◌, List, ◌++◌, length}
use Rattle.table_listing.specs.Order.{picked}
use Rattle.table_listing.specs.declared.arrange.Parts.{Parts}

-- the places ps are parted into those whose strings end, those that go into the 0-branch and those that go into the 1-branch
pub record Parted (s : ℕ → List ℕ) (d : ℕ) (ps : List ℕ) (r : Parts) (m' : List ℕ) : Type 0 where
  pub ends : r.ends ≡ length (picked s d 0 ps)
  pub zeros : r.zeros ≡ length (picked s d 0 ps) + length (picked s d 1 ps)
  pub memory : m' ≡ picked s d 0 ps ++ picked s d 1 ps ++ picked s d 2 ps
