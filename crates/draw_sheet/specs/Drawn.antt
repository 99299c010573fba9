-- What goes out in the second pass: the parts of a PNG. Of the sheet's bytes only those that were read last stand in memory: each part
-- is so for every sheet that begins with the bytes that were taken and, where the sheet has ended, for that one. Definitions only; their
-- laws are in Drawn/. Assumes nothing.
use Rattle.std.specs.Prelude.{ℕ, ◌/◌, ◌≡◌, Bool, true, List, ◌++◌, take}
use Rattle.sheet_format.specs.Sheet.{StoredRow}
use Rattle.sheet_format.specs.Stream.{Carried, Carries}
use Rattle.png_format.specs.Png.{scanline, image_data, png_front, png_row, png_end}
use Rattle.png_writer.specs.declared.adler.Sums.{Sums}
use Rattle.png_writer.specs.Sums.{SumsOf}
use Rattle.sheet_picture.specs.declared.View.{View}
use Rattle.sheet_picture.specs.Colour.{palette}
use Rattle.sheet_picture.specs.Grid.{picture_row, picture_width, picture_height, rows_from}
use Rattle.sheet_picture.specs.View.{look_of, extent_of}
use Rattle.draw_sheet.specs.declared.advance.Ahead.{Ahead}
use Rattle.draw_sheet.specs.declared.draw.RowPart.{RowPart}
use Rattle.draw_sheet.specs.Ahead.{rows_in, MayBe, SheetOver, HeldBy, ReadTo}
use Rattle.draw_sheet.specs.View.{ViewMade}
pub mod Laws

-- v is the view, c the bytes of the map's counts
module _ (v : View) (c : List ℕ) where
  abbrev pub width_drawn : ℕ
  width_drawn = picture_width (look_of v c) (extent_of v)

  abbrev pub height_drawn : ℕ
  height_drawn = picture_height (look_of v c) (extent_of v)

  -- row y of the picture of the sheet s
  abbrev pub row_drawn : List ℕ → ℕ → List ℕ
  row_drawn s y = picture_row (look_of v c) (extent_of v) (rows_in s) y

  -- what is compressed of its first n rows
  abbrev pub data_drawn : List ℕ → ℕ → List ℕ
  data_drawn s n = image_data (rows_from (row_drawn s) 0 n)

-- ---- a row, in memory: its part of the file, and the sums with its scanline
pub record RowPut (v : View) (c : List ℕ) (ys : List StoredRow) (y : ℕ) (sums : Sums) (r : RowPart) (out : List ℕ) : Type 0 where
  pub part : take r.count out ≡ png_row (picture_row (look_of v c) (extent_of v) ys y)
  pub adds : (d : List ℕ) → SumsOf sums d → SumsOf r.sums (d ++ scanline (picture_row (look_of v c) (extent_of v) ys y))

-- ---- the parts, as they go out
pub record FrontOut (v : View) (c part : List ℕ) : Type 0 where
  pub made : ViewMade v c
  pub front : part ≡ png_front (width_drawn v c) (height_drawn v c) palette

-- how far the sheet is read: some bytes were taken, which are accepted records to their end, and where the sheet has ended, some more
pub record SheetSoFar : Type 0 where
  pub taken : List ℕ
  pub carried : Carried
  pub carries : Carries taken carried
  pub ended : Bool
  pub last : List ℕ
  pub over : ended ≡ true → SheetOver carried last

-- s may be that sheet
abbrev pub MayBeOf : SheetSoFar → List ℕ → Type 0
MayBeOf r s = MayBe r.ended r.taken r.last s

-- row y: its row of the sheet could still come until the bytes that are held were read
pub record RowOut (v : View) (c : List ℕ) (y : ℕ) (held part : List ℕ) : Type 0 where
  pub made : ViewMade v c
  pub reading : SheetSoFar
  pub known : HeldBy held (y / v.times) reading.ended reading.taken reading.last
  pub row : (s : List ℕ) → MayBeOf reading s → part ≡ png_row (row_drawn v c s y)

pub record EndOut (v : View) (c part : List ℕ) : Type 0 where
  pub made : ViewMade v c
  pub reading : SheetSoFar
  pub end : (s : List ℕ) → MayBeOf reading s → part ≡ png_end (data_drawn v c s (height_drawn v c))

-- ---- on the way: the rows before y are drawn, and these are the sums of their scanlines
pub record DrawnTo (v : View) (c : List ℕ) (a : Ahead) (bytes table content : List ℕ) (n y : ℕ) (sums : Sums) : Type 0 where
  pub read : ReadTo a bytes table content n
  pub summed : (s : List ℕ) → MayBe a.ended read.taken read.last s → SumsOf sums (data_drawn v c s y)
