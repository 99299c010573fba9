-- What a turn of the lister does, by value: the record's bytes, the table and the line stand in lent memory. sheet_listing's
-- `turns-listing` says that such turns make the listing. Definitions only. Assumes nothing.
use Rattle.std.specs.Prelude.{ℕ, ◌≡◌, true, List, length, take}
use Rattle.sheet_format.specs.Stream.{held_of}
use Rattle.sheet_listing.specs.Line.{last_line}
use Rattle.sheet_listing.specs.Turns.{Turned, turn_of}
use Rattle.sheet_stream.specs.declared.progress.SheetProgress.{SheetProgress}
use Rattle.sheet_stream.specs.Progress.{carried_by}
use Rattle.list_sheet.specs.declared.turn.Turn.{Turn}
pub mod Laws

-- what a turn comes to: its line is at the front of the memory for it
abbrev pub turned_by : Turn → List ℕ → List ℕ → Turned
turned_by t table line = record { line = take t.count line; last = t.last; next = carried_by t.next table }

-- the last turn: the line with such a number and bit
abbrev pub end_turn : ℕ → ℕ → ℕ → SheetProgress → Turn
end_turn taken number bit p =
    record { last = true; taken = taken; count = length (last_line number bit p.index p.rows); next = p }

-- with the bytes b, which are what is held of a record, the turn was made that the definition has
pub record TurnMade (b : List ℕ) (p : SheetProgress) (table : List ℕ) (t : Turn) (table' line' : List ℕ) : Type 0 where
  pub held : b ≡ held_of b
  pub made : turned_by t table' line' ≡ turn_of (carried_by p table) b
