-- What a caller knows of a table: with 0 nothing, with more than 0 that it is accepted and that its longest item has so many
-- bits. Definitions only. Assumes nothing.
use Rattle.std.specs.Prelude.{ℕ, ◌≡◌, List}
use Rattle.answer.specs.Outcome.{answer_of}
use Rattle.row_format.specs.Calls.{checked}

abbrev pub Known : ℕ → List ℕ → Type 0
Known most tb = (most ≡ 0 → ⊥) → checked tb ≡ answer_of 0 most
