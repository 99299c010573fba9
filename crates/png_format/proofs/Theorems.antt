-- The theorems on pictures: a reader that goes by the standards alone gives back what was written. Assumes nothing.
use Rattle.std.specs.Prelude.{ℕ, ◌≤◌, ◌<◌, ◌≡◌, List, ◌++◌, length}
use Rattle.std.proofs.Math.Option.{some}
use Rattle.png_format.specs.Png.{signature, image_data, png}
use Rattle.png_format.specs.Reading.{ReadChunk, chunks_in, stream_of, unstored, scanlines_of, picture_in}
use Rattle.png_format.specs.Chunks.{chunk_bytes, Writable, RowsOf, data_chunks, png_chunks}
use Rattle.png_format.proofs.Reading.Chunks.{chunks-in-back}
use Rattle.png_format.proofs.Reading.Back.{chunks-in, data-in, rows_in_lem, picture-in}

-- chunks of any types and any data
pub any-chunks-read : (xs : List ReadChunk) → Writable xs → chunks_in (signature ++ chunk_bytes xs) ≡ some xs
any-chunks-read = chunks-in-back

-- rows of w samples each, where a scanline of them fits a stored block
module _ (w : ℕ) (most : w ≤ 65534) where
  -- the file is IHDR, PLTE, the IDATs and IEND, each whole and with its CRC
  pub chunks-read : (h : ℕ) (palette : List ℕ) (rows : List (List ℕ)) → length palette < 4294967296 → RowsOf w rows
      → chunks_in (png w h palette rows) ≡ some (png_chunks w h palette rows)
  chunks-read = chunks-in w most

  -- the IDATs' data, one after another, unstore to the scanlines
  pub data-read : (rows : List (List ℕ)) → RowsOf w rows → unstored (stream_of (data_chunks rows)) ≡ some (image_data rows)
  data-read = data-in w most

  -- which are the rows
  pub rows-read : (rows : List (List ℕ)) → RowsOf w rows → scanlines_of w (length rows) (image_data rows) ≡ some rows
  rows-read = rows_in_lem w

  -- all of it: the file shows the picture
  pub picture-read : (h : ℕ) (palette : List ℕ) (rows : List (List ℕ)) → length palette < 4294967296 → h < 4294967296
      → RowsOf w rows → length rows ≡ h
      → picture_in (png w h palette rows) ≡ some (record { width = w; height = h; palette = palette; rows = rows })
  picture-read = picture-in w most
