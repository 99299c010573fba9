-- What stands beside the sheet: nothing, or a map as reading it left it. Definitions only; their laws are in Map/Laws.antt. Assumes
-- nothing.
use Rattle.std.specs.Prelude.{ℕ, ◌≤◌, ◌≡◌, cond, List, length, eqb}
use Rattle.answer.specs.declared.Answer.{Answer}
use Rattle.answer.specs.Outcome.{Outcome}
use Rattle.bitstream.specs.Bits.{halves_of}
use Rattle.map_format.specs.Calls.{map_read}
use Rattle.sheet_picture.specs.Grid.{Beside, nothing, counts, unread, most_of}
use Rattle.sheet_picture.specs.View.{beside_of}
use Rattle.draw_sheet.specs.declared.side.Side.{Side}
use Rattle.draw_sheet.specs.declared.side.Side.TheVariants.{Nothing, Counts, Refused}
pub mod Laws

-- the number that sheet_picture has for it
abbrev pub side_beside : Side → ℕ
side_beside Nothing = 0
side_beside (Counts most) = 1
side_beside (Refused e) = 2

-- the largest count, at least 1
abbrev pub side_most : Side → ℕ
side_most Nothing = 1
side_most (Counts most) = most
side_most (Refused e) = 1

-- the number by which a map is refused, else 0
abbrev pub side_number : Side → ℕ
side_number Nothing = 0
side_number (Counts most) = 0
side_number (Refused e) = e

-- by what reading a map left: its counts, or that it is refused
abbrev pub map_beside : Outcome Answer → Beside
map_beside o = cond (eqb o.answer.number 0) (counts (halves_of o.memory)) unread

-- what stands beside the sheet, where c is the bytes of the counts: nothing, or a map of some group size and total, whose bytes were
-- read to memory m
pub data Shown (beside : ℕ) (c : List ℕ) : Type 0 where
  without_map : beside ≡ 0 → Shown beside c
  with_map : (group : ℕ) (bytes : List ℕ) (total : ℕ) (m : List ℕ) → length m ≡ 32768
      → beside_of beside c ≡ map_beside (map_read group bytes total m) → Shown beside c

-- of the map of group size g and a total, whose bytes are b: m is what the memory for its counts held, and c what it holds then
pub record SideRead (g : ℕ) (b : List ℕ) (total : ℕ) (m : List ℕ) (s : Side) (c : List ℕ) : Type 0 where
  pub beside : beside_of (side_beside s) c ≡ map_beside (map_read g b total m)
  pub number : side_number s ≡ (map_read g b total m).answer.number

-- what stands beside the sheet, with its largest count
pub record SideShown (s : Side) (c : List ℕ) : Type 0 where
  pub shown : Shown (side_beside s) c
  pub few : side_beside s ≤ 2
  pub room : length c ≡ 32768
  pub most : side_beside s ≡ 1 → side_most s ≡ most_of (halves_of c)
