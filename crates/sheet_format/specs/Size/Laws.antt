-- The size of rows, with one row more. Assumes nothing.
use Rattle.std.specs.Prelude.{◌+◌, max, ◌≡◌, List, [], ◌∷◌, ◌++◌, length}
use Rattle.std.proofs.Common.{arith}
use Rattle.sheet_format.specs.Sheet.{StoredRow}
use Rattle.sheet_format.specs.Size.{rows_width, rows_height}

pub width-more : (ys : List StoredRow) (y : StoredRow) → rows_width (ys ++ (y ∷ [])) ≡ max (rows_width ys) (length y.heights)
unfolding rows_width
width-more [] y = omega arith
width-more (x ∷ ys) y = omega (arith, width-more ys y)

pub height-more : (ys : List StoredRow) (y : StoredRow) → rows_height (ys ++ (y ∷ [])) ≡ max (rows_height ys) (y.number + 1)
unfolding rows_height
height-more [] y = omega arith
height-more (x ∷ ys) y = omega (arith, height-more ys y)
