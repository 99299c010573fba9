-- The view that is drawn: as large as the sheet that was measured, and with the map beside it that was read. Definitions only.
-- Assumes nothing.
use Rattle.std.specs.Prelude.{List, ℕ, ◌≤◌}
use Rattle.sheet_picture.specs.declared.View.{View}
use Rattle.sheet_picture.specs.View.{ViewFits}
use Rattle.draw_sheet.specs.Map.{Shown}
use Rattle.draw_sheet.specs.Measure.{Measures}

-- c is the bytes of the map's counts
pub record ViewMade (v : View) (c : List ℕ) : Type 0 where
  pub fits : ViewFits v c
  pub order : v.low ≤ v.high
  pub high : v.high ≤ 4093
  pub measured : Measures v.width v.height
  pub shown : Shown v.beside c
