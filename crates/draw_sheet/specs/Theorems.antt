-- What goes out, part after part, is the PNG of the sheet's picture, where the second pass reads the bytes that the first one measured;
-- and that PNG shows the picture. Assumes nothing.
use Rattle.std.specs.Prelude.{ℕ, ◌≡◌, List, ◌++◌}
use Rattle.std.proofs.Math.Option.{some}
use Rattle.png_format.specs.Png.{png_front, png_rows, png_end, png}
use Rattle.png_format.specs.Reading.{picture_in}
use Rattle.sheet_picture.specs.declared.View.{View}
use Rattle.sheet_picture.specs.Colour.{palette}
use Rattle.sheet_picture.specs.Extent.{sheet_extent}
use Rattle.sheet_picture.specs.Grid.{picture_width, picture_height, rows_from, picture_rows}
use Rattle.sheet_picture.specs.View.{look_of, extent_of, ViewFits}
use Rattle.draw_sheet.specs.Drawn.{width_drawn, height_drawn, row_drawn, data_drawn}
use Shown.{picture-shown}
pub mod Shown

-- v is a view as large as the sheet s, c the bytes of the map's counts
module _ (v : View) (c s : List ℕ) (size : sheet_extent s ≡ extent_of v) where
  pub parts_whole : png_front (width_drawn v c) (height_drawn v c) palette
      ++ png_rows (rows_from (row_drawn v c s) 0 (height_drawn v c))
      ++ png_end (data_drawn v c s (height_drawn v c))
      ≡ (let look = look_of v c in
      png (picture_width look (sheet_extent s)) (picture_height look (sheet_extent s)) palette (picture_rows look s))
  unfolding png picture_rows
  parts_whole = rw size

  -- a reader of PNG that goes by the standards alone finds all of it there: size, palette and rows
  pub file-shows : ViewFits v c
      → let look = look_of v c in
      let w = picture_width look (sheet_extent s) in
      let h = picture_height look (sheet_extent s) in
      picture_in (png w h palette (picture_rows look s))
      ≡ some (record { width = w; height = h; palette = palette; rows = picture_rows look s })
  file-shows fits = picture-shown fits s size
