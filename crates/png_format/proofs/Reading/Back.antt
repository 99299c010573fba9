-- A picture's file is read as it is written: its chunks, its data, its rows. Assumes nothing.
use Prim.Native.Nat.{ℕ, zero, suc, ◌+◌, ◌≤◌, ◌<◌}
use native.Mathlib.Omega.{arith}
use Rattle.std.specs.Prelude.{◌≡◌, true, false, length, take, drop}
use Rattle.std.proofs.Math.Path.{refl, sym, ap, ap₂}
use Rattle.std.proofs.Common.{◌∙◌, take_at, drop_at, eq-eqb, le-ltb}
use Rattle.std.proofs.Math.Bool.{Bool, cond}
use mathlib.Core.List.{List, [], ◌∷◌, ◌++◌, append_assoc, append-nil}
use Rattle.std.proofs.Math.Option.{Option, none, some}
use Rattle.std.proofs.Math.ListN.{length-append}
use Rattle.text.specs.Text.{ascii}
use Rattle.text.specs.Same.{same_bytes}
use Rattle.png_format.specs.Adler.{adler}
use Rattle.png_format.specs.Chunk.{big_four, chunk}
use Rattle.png_format.specs.Stored.{stream_front, stored_block, stream_end}
use Rattle.png_format.specs.Png.{signature, image_header, scanline, image_data, png_front, png_row, png_rows, png_end, png}
use Rattle.png_format.specs.Reading.{big_number, ReadChunk, chunks_in, stream_of}
use Rattle.png_format.specs.Reading.{with_block, blocks_of, front_holds, sum_checked, unstored, with_scanline, scanlines_of}
use Rattle.png_format.specs.Reading.{header_holds, last_is_end, with_rows, with_data, picture_of, picture_in}
use Rattle.png_format.specs.Chunks.{chunk_bytes, Writable, RowsOf, data_chunk, row_chunks, end_chunks, data_chunks, png_chunks}
use Rattle.png_format.proofs.Reading.Chunks.{big_four-back, chunks-in-back, chunk_bytes-append}
use Rattle.png_format.proofs.Reading.Blocks.{block_more, block_last}

-- ---- the file is its chunks
row-bytes : (rows : List (List ℕ)) → chunk_bytes (row_chunks rows) ≡ png_rows rows
unfolding png_row png_rows
row-bytes [] = refl
row-bytes (row ∷ rows) = ap (chunk (ascii "IDAT") (stored_block 0 (scanline row)) ++◌) (row-bytes rows)

end-bytes : (d : List ℕ) → chunk_bytes (end_chunks d) ≡ png_end d
unfolding png_end
end-bytes d = ap (chunk (ascii "IDAT") (stream_end d) ++◌) (append-nil (chunk (ascii "IEND") []))

regrouped : (a b c d e : List ℕ) → a ++ b ++ c ++ d ++ e ≡ a ++ (b ++ (c ++ (d ++ e)))
regrouped a b c d e = simp append_assoc

png-bytes : (w h : ℕ) (palette : List ℕ) (rows : List (List ℕ))
    → png w h palette rows ≡ signature ++ chunk_bytes (png_chunks w h palette rows)
unfolding png png_front
png-bytes w h palette rows =
    let header : List ℕ = chunk (ascii "IHDR") (image_header w h) in
    let colours : List ℕ = chunk (ascii "PLTE") palette in
    let front : List ℕ = chunk (ascii "IDAT") stream_front in
    let rest : chunk_bytes (row_chunks rows ++ end_chunks (image_data rows)) ≡ png_rows rows ++ png_end (image_data rows) =
    chunk_bytes-append (row_chunks rows) (end_chunks (image_data rows)) ∙ ap₂ ◌++◌ (row-bytes rows) (end-bytes (image_data rows)) in
    ap (signature ++◌)
    (regrouped header colours front (png_rows rows) (png_end (image_data rows))
    ∙ ap (λ (l : List ℕ). header ++ (colours ++ (front ++ l))) (sym rest))

-- ---- the data of the chunks are the stream
row-blocks : List (List ℕ) → List ℕ
row-blocks [] = []
row-blocks (row ∷ rows) = stored_block 0 (scanline row) ++ row-blocks rows

rows-stream : (d : List ℕ) (rows : List (List ℕ)) → stream_of (row_chunks rows ++ end_chunks d) ≡ row-blocks rows ++ stream_end d
unfolding stream_of same_bytes row-blocks
rows-stream d [] = append-nil (stream_end d)
rows-stream d (row ∷ rows) =
    ap (stored_block 0 (scanline row) ++◌) (rows-stream d rows)
    ∙ sym (append_assoc (stored_block 0 (scanline row)) (row-blocks rows) (stream_end d))

length-blocks : (d : List ℕ) (rows : List (List ℕ)) → length rows ≤ length (row-blocks rows ++ d)
unfolding row-blocks stored_block
length-blocks d [] = omega arith
length-blocks d (row ∷ rows) =
    let front = length-append row (row-blocks rows) in
    omega (arith, length-blocks d rows, length-append (row ++ row-blocks rows) d, length-append (row-blocks rows) d)

adler-lt : (d : List ℕ) → adler d < 4294967296
unfolding adler
adler-lt d = omega arith

sum-is-right : (d : List ℕ) → sum_checked (some (record { content = d; rest = big_four (adler d) })) ≡ some d
sum-is-right d =
    ap (λ (b : Bool). cond b (some d) none) (eq-eqb (big_number (big_four (adler d))) (adler d) (big_four-back (adler d) [] (adler-lt d)))

end-is-last : (d : List ℕ) (rows : List (List ℕ)) (x : ReadChunk) → last_is_end (x ∷ (row_chunks rows ++ end_chunks d)) ≡ true
unfolding last_is_end same_bytes
end-is-last d [] x = refl
end-is-last d (row ∷ rows) x = end-is-last d rows (data_chunk (stored_block 0 (scanline row)))

-- ---- rows of any length
module _ (w : ℕ) where
  -- the scanlines are the rows
  pub rows_in_lem : (rows : List (List ℕ)) → RowsOf w rows → scanlines_of w (length rows) (image_data rows) ≡ some rows
  unfolding scanlines_of image_data
  rows_in_lem [] h = refl
  rows_in_lem (row ∷ rows) h =
      let s : List ℕ = row ++ image_data rows in
      let found : Bool → List ℕ → List ℕ → Option (List (List ℕ)) =
      λ b front rest. cond b none (with_scanline front (scanlines_of w (length rows) rest)) in
      let size = length-append row (image_data rows) in
      ap (λ (b : Bool). found b (take w s) (drop w s)) (le-ltb (suc (length s)) (w + 1) (omega (arith, h.0)))
      ∙ ap₂ (found false) (take_at row (image_data rows) w h.0) (drop_at row (image_data rows) w h.0)
      ∙ ap (with_scanline row) (rows_in_lem rows h.1)

  header_read_lem : (h : ℕ) → w < 4294967296 → h < 4294967296 → (big_number (image_header w h) ≡ w) × (big_number (drop 4 (image_header w h)) ≡ h)
  unfolding image_header
  header_read_lem h small-w small = (big_four-back w [] small-w, big_four-back h [] small)

-- ---- rows that a block holds
module _ (w : ℕ) (most : w ≤ 65534) where
  -- the chunks are read
  rows_fit : (d : List ℕ) (rows : List (List ℕ)) → RowsOf w rows → Writable (row_chunks rows ++ end_chunks d)
  unfolding stored_block stream_end
  rows_fit d [] h = (refl, omega arith, (refl, omega arith, tt))
  rows_fit d (row ∷ rows) h = (refl, omega (arith, h.0), rows_fit d rows h.1)

  pub chunks-in : (h : ℕ) (palette : List ℕ) (rows : List (List ℕ)) → length palette < 4294967296 → RowsOf w rows
      → chunks_in (png w h palette rows) ≡ some (png_chunks w h palette rows)
  unfolding image_header
  chunks-in h palette rows few all =
      let xs : List ReadChunk = png_chunks w h palette rows in
      let fits : Writable xs = (refl, omega arith, (refl, few, (refl, omega arith, rows_fit (image_data rows) rows all))) in
      ap chunks_in (png-bytes w h palette rows) ∙ chunks-in-back xs fits

  -- the blocks hold the scanlines
  rows-blocks : (f : ℕ) (d : List ℕ) (rows : List (List ℕ)) → RowsOf w rows → length rows ≤ f
      → blocks_of (suc f) (row-blocks rows ++ stream_end d) ≡ some (record { content = image_data rows; rest = big_four (adler d) })
  unfolding row-blocks stream_end image_data
  rows-blocks f d [] h few = block_last [] (big_four (adler d)) f (omega arith)
  rows-blocks zero d (row ∷ rows) h few = absurd (omega arith)
  rows-blocks (suc f) d (row ∷ rows) h few =
      ap (blocks_of (suc (suc f))) (append_assoc (stored_block 0 (scanline row)) (row-blocks rows) (stream_end d))
      ∙ block_more (scanline row) (row-blocks rows ++ stream_end d) (suc f) (omega (arith, h.0))
      ∙ ap (with_block (scanline row)) (rows-blocks f d rows h.1 (omega arith))

  pub data-in : (rows : List (List ℕ)) → RowsOf w rows → unstored (stream_of (data_chunks rows)) ≡ some (image_data rows)
  unfolding unstored stream_of same_bytes front_holds
  data-in rows h =
      let d : List ℕ = image_data rows in
      let blocks : List ℕ = row-blocks rows ++ stream_end d in
      ap (λ (l : List ℕ). sum_checked (blocks_of (suc (suc (length l))) l)) (rows-stream d rows)
      ∙ ap sum_checked (rows-blocks (suc (length blocks)) d rows h (omega (arith, length-blocks (stream_end d) rows)))
      ∙ sum-is-right d

  -- the picture is read
  pub picture-in : (h : ℕ) (palette : List ℕ) (rows : List (List ℕ)) → length palette < 4294967296 → h < 4294967296
      → RowsOf w rows → length rows ≡ h
      → picture_in (png w h palette rows) ≡ some (record { width = w; height = h; palette = palette; rows = rows })
  unfolding picture_in picture_of header_holds same_bytes image_header
  picture-in h palette rows few small all count =
      let header : ReadChunk = record { type = ascii "IHDR"; content = image_header w h } in
      let colours : ReadChunk = record { type = ascii "PLTE"; content = palette } in
      let size = header_read_lem w h (omega arith) small in
      ap picture_of (chunks-in h palette rows few all)
      ∙ ap (λ (b : Bool). cond b (with_data header colours (unstored (stream_of (data_chunks rows)))) none)
      (end-is-last (image_data rows) rows (data_chunk stream_front))
      ∙ ap (with_data header colours) (data-in rows all)
      ∙ ap₂ (λ (a b : ℕ). with_rows header colours (scanlines_of a b (image_data rows))) size.0 (size.1 ∙ sym count)
      ∙ ap (with_rows header colours) (rows_in_lem w rows all)
      ∙ ap₂ (λ (a b : ℕ). some (record { width = a; height = b; palette = palette; rows = rows })) size.0 size.1
