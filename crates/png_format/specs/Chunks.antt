-- Lists of chunks: their bytes, and the list that a picture's file is. Definitions only. Assumes nothing.
use Rattle.std.specs.Prelude.{ℕ, ◌<◌, ◌≡◌, List, [], ◌∷◌, ◌++◌, length}
use Rattle.text.specs.Text.{ascii}
use Rattle.png_format.specs.Chunk.{chunk}
use Rattle.png_format.specs.Stored.{stream_front, stored_block, stream_end}
use Rattle.png_format.specs.Png.{image_header, scanline, image_data}
use Rattle.png_format.specs.Reading.{ReadChunk}

-- ---- chunks one after another
abbrev pub chunk_bytes : List ReadChunk → List ℕ
chunk_bytes [] = []
chunk_bytes (x ∷ xs) = chunk x.type x.content ++ chunk_bytes xs

-- each has a type of four bytes, and no more data than four bytes can count
abbrev pub Writable : List ReadChunk → Type 0
Writable [] = Unit
Writable (x ∷ xs) = (length x.type ≡ 4) × (length x.content < 4294967296) × Writable xs

-- ---- the chunks of a picture's file
-- every row has w samples
abbrev pub RowsOf : ℕ → List (List ℕ) → Type 0
RowsOf w [] = Unit
RowsOf w (row ∷ rows) = (length row ≡ w) × RowsOf w rows

abbrev pub data_chunk : List ℕ → ReadChunk
data_chunk d = record { type = ascii "IDAT"; content = d }

abbrev pub row_chunks : List (List ℕ) → List ReadChunk
row_chunks [] = []
row_chunks (row ∷ rows) = data_chunk (stored_block 0 (scanline row)) ∷ row_chunks rows

abbrev pub end_chunks : List ℕ → List ReadChunk
end_chunks d = data_chunk (stream_end d) ∷ record { type = ascii "IEND"; content = [] } ∷ []

abbrev pub data_chunks : List (List ℕ) → List ReadChunk
data_chunks rows = data_chunk stream_front ∷ (row_chunks rows ++ end_chunks (image_data rows))

abbrev pub png_chunks : ℕ → ℕ → List ℕ → List (List ℕ) → List ReadChunk
png_chunks w h palette rows =
    record { type = ascii "IHDR"; content = image_header w h } ∷ record { type = ascii "PLTE"; content = palette } ∷ data_chunks rows
