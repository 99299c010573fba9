-- Which rows are asked for: `--rows A-B` has two numbers in decimal with a `-` between them, at most 65535, the first at most the
-- second. Definitions only; their laws are in RowRange/Laws.antt. Assumes nothing.
use Rattle.std.specs.Prelude.{ℕ, suc, Bool, true, false, cond, List, [], ◌∷◌, take, drop, eqb, ltb, Option, Some, None}
use Rattle.text.specs.Number.{number_in}
use Rattle.sheet_to_text.specs.declared.range.RowRange.{RowRange}
pub mod Laws
pub mod Cases

-- rows from a to b
abbrev pub between : ℕ → ℕ → RowRange
between a b = record { first = a; last = b }

abbrev pub in_order_only : ℕ → ℕ → Option RowRange
in_order_only a b = cond (ltb b a) None (Some (between a b))

abbrev pub range_between : Option ℕ → Option ℕ → Option RowRange
range_between (Some a) (Some b) = in_order_only a b
range_between (Some a) None = None
range_between None d = None

-- how many bytes stand before the first `-`, byte 45
unfoldable pub before_dash : List ℕ → ℕ
before_dash [] = 0
before_dash (b ∷ s) = let q : ℕ = before_dash s in cond (eqb b 45) 0 (suc q)

unfoldable pub range_in : List ℕ → Option RowRange
range_in s = range_between (number_in 65535 (take (before_dash s) s)) (number_in 65535 (drop (suc (before_dash s)) s))

-- whether the row of that number is asked for
unfoldable pub is_asked : RowRange → ℕ → Bool
is_asked r n = cond (ltb n r.first) false (cond (ltb r.last n) false true)
