-- The ways that a string goes at a node of the tree. Definitions only. Assumes nothing.
use Rattle.std.specs.Prelude.{ℕ}
use Rattle.table_listing.specs.declared.string.Way.{Way}
use Rattle.table_listing.specs.declared.string.Way.TheVariants.{Ends, Zero, One}

-- as Order counts them
abbrev pub way_number : Way → ℕ
way_number Ends = 0
way_number Zero = 1
way_number One = 2
