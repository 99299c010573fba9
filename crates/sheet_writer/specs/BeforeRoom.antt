-- The refusals before the one for room. Definitions only. Assumes nothing.
use Rattle.std.specs.Prelude.{ℕ, List}
use Rattle.answer.specs.Outcome.{◌or_else◌}
use Rattle.sheet_format.specs.Context.{Heading, Context}
use Rattle.sheet_format.specs.Kind.{Kind}

-- the number of a record of a known kind, but for 5
abbrev pub before_room : Kind → Heading → Context → List ℕ → ℕ
before_room k h c x = k.place c h or_else k.given h c x
