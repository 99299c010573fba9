-- The first pass: what is known on the way through the sheet, and what it comes to. Definitions only; their laws are in Measure/.
-- Assumes nothing.
use Rattle.std.specs.Prelude.{ℕ, ◌+◌, ◌≤◌, max, ◌≡◌, List, length}
use Rattle.sheet_format.specs.Context.{new_sheet}
use Rattle.sheet_format.specs.Kind.{Payload, a_table, a_row, a_line, no_payload}
use Rattle.sheet_format.specs.Sheet.{stored_rows, records}
use Rattle.sheet_format.specs.Stream.{held_of, Carried, ended, next_of, Carries}
use Rattle.sheet_format.specs.Size.{rows_width, rows_height}
use Rattle.sheet_picture.specs.Extent.{rows_claimed, records_length, sheet_extent}
use Rattle.draw_sheet.specs.declared.measured.Measured.{Measured}
pub mod Laws
pub mod Behind

-- the most heights of a row, w before a record that holds s and counts n
abbrev pub width_with : Payload → ℕ → ℕ → ℕ
width_with a_table w n = w
width_with a_row w n = max w n
width_with a_line w n = w
width_with no_payload w n = w

-- ---- on the way
-- some bytes were taken, p is carried after them, and the widest row among them has w heights
pub record Passing (p : Carried) (w : ℕ) : Type 0 where
  pub taken : List ℕ
  pub carries : Carries taken p
  pub size : records_length (records new_sheet taken).records ≡ length taken
  pub width : rows_width (stored_rows (records new_sheet taken).records) ≡ w
  pub height : rows_height (stored_rows (records new_sheet taken).records) ≡ p.state.least_row
  pub wide : w ≤ 4096
  pub tall : p.state.least_row ≤ 65536

-- with the bytes b, which are what is held of a record, the sheet ends so
pub record PassEnds (b : List ℕ) (p : Carried) (w e at : ℕ) : Type 0 where
  pub passing : Passing p w
  pub held : b ≡ held_of b
  pub ends : next_of p b ≡ ended e at

-- ---- behind a fault
-- from the refused record on, of which the bytes b are held, some bytes were taken, whose records claim h rows
pub record Claims (b : List ℕ) (h : ℕ) : Type 0 where
  pub behind : List ℕ
  pub held : held_of behind ≡ b
  pub claimed : rows_claimed (length behind) behind ≡ h

-- of the sheet that is refused there, whose rows before the fault are at most w wide and below `least`, the extent
pub record BrokenBy (b : List ℕ) (w least : ℕ) (m : Measured) : Type 0 where
  pub rows : ℕ
  pub claims : Claims b rows
  pub width : m.width ≡ max 16 w
  pub height : m.height ≡ max (least + 16) rows

-- ---- what it comes to: the extent of all bytes that were taken
pub record Measures (width height : ℕ) : Type 0 where
  pub sheet : List ℕ
  pub extent : sheet_extent sheet ≡ record { width = width; height = height }
