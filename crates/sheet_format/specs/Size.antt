-- How large the rows of a sheet are together, for whoever shows them side by side: as wide as the longest, and each at its number.
-- Definitions only; their laws are in Size/Laws.antt. Assumes nothing.
use Rattle.std.specs.Prelude.{ℕ, ◌+◌, max, List, [], ◌∷◌, length}
use Rattle.sheet_format.specs.Sheet.{StoredRow}
pub mod Laws

-- the heights of the longest row
unfoldable pub rows_width : List StoredRow → ℕ
rows_width [] = 0
rows_width (y ∷ ys) = max (length y.heights) (rows_width ys)

-- the rows from 0 to the last one
unfoldable pub rows_height : List StoredRow → ℕ
rows_height [] = 0
rows_height (y ∷ ys) = max (y.number + 1) (rows_height ys)
