-- What is known of a number that was read. Definitions only. Assumes nothing.
use Rattle.std.specs.Prelude.{ℕ, ◌≤◌, Option, Some, None}

-- it is from `least` to `most`, where there is one
abbrev pub Between : ℕ → ℕ → Option ℕ → Type 0
Between least most (Some v) = (least ≤ v) × (v ≤ most)
Between least most None = Unit {0}
