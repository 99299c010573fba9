-- What bytes say, where they are read as a number. Definitions only; their laws are in Number/Laws.antt. Assumes nothing.
use Rattle.std.specs.Prelude.{ℕ, ◌+◌, ◌-◌, ◌*◌, ◌≤◌, Bool, false, cond, List, [], ◌∷◌, ltb, Option, Some, None}
use Rattle.std.specs.List.{fold}
pub mod Laws

-- `0` to `9` are bytes 48 to 57
unfoldable pub is_digit : ℕ → Bool
is_digit b = cond (ltb b 48) false (ltb b 58)

-- a digit after a number, which is to be at most `most`
unfoldable pub with_digit : ℕ → ℕ → ℕ → Option ℕ
with_digit most v b = let next : ℕ = v * 10 + (b - 48) in cond (ltb most next) None (Some next)

-- a byte after what was read
unfoldable pub number_with : ℕ → Option ℕ → ℕ → Option ℕ
number_with most (Some v) b = cond (is_digit b) (with_digit most v b) None
number_with most None b = None

-- bytes after what was read
unfoldable pub number_from : ℕ → Option ℕ → List ℕ → Option ℕ
number_from most = fold (number_with most)

-- digits alone, one and more, are a number
unfoldable pub number_in : ℕ → List ℕ → Option ℕ
number_in most [] = None
number_in most (b ∷ s) = number_from most (Some 0) (b ∷ s)

-- it is at most `most`, where there is one
abbrev pub AtMost : ℕ → Option ℕ → Type 0
AtMost most (Some v) = v ≤ most
AtMost most None = Unit {0}
