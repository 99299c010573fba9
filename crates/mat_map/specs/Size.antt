-- The group sizes. Definitions only; their laws are in Size/Laws.antt. Assumes nothing.
use Rattle.std.specs.Prelude.{ℕ, cond, eqb}
pub mod Laws

-- the bits of a position in a group of g pixels, 0 for a size that no map has
unfoldable pub bits_or_none : ℕ → ℕ
bits_or_none g = cond (eqb g 4) 2 (cond (eqb g 16) 4 0)
