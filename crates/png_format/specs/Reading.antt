-- A reader of pictures, from the PNG specification, RFC 1950 and RFC 1951 alone: IHDR, PLTE, then chunks of any kind, IEND last; a
-- zlib stream of stored blocks of any lengths, scanlines without a filter. It knows nothing of how Png.antt cuts a picture up, and
-- refuses (none) what is not whole or does not match its checksum. Definitions only; their laws are in proofs/Reading/. Assumes nothing.
use Rattle.std.specs.Prelude.{ℕ, zero, suc, ◌+◌, ◌*◌, ◌/◌, ◌%◌, Bool, false, cond, List, [], ◌∷◌, ◌++◌, length, take, drop, get_or, eqb, ltb}
use Rattle.std.proofs.Math.Option.{Option, none, some}
use Rattle.text.specs.Text.{ascii}
use Rattle.text.specs.Same.{same_bytes}
use Rattle.png_format.specs.Crc.{crc}
use Rattle.png_format.specs.Adler.{adler}
use Rattle.png_format.specs.Png.{signature}

-- the number that four bytes hold, the highest byte first; that of two bytes, the lower first
abbrev pub big_number : List ℕ → ℕ
big_number s = ((get_or s 0 0 * 256 + get_or s 1 0) * 256 + get_or s 2 0) * 256 + get_or s 3 0

abbrev pub low_number : List ℕ → ℕ
low_number s = get_or s 1 0 * 256 + get_or s 0 0

-- ---- chunks
pub record ReadChunk : Type 0 where
  pub type : List ℕ
  pub content : List ℕ

-- the chunk at the front of some bytes, and what stands after its data
abbrev pub front_chunk : List ℕ → ReadChunk
front_chunk s = record { type = take 4 (drop 4 s); content = take (big_number s) (drop 8 s) }

abbrev pub after_content : List ℕ → List ℕ
after_content s = drop (big_number s) (drop 8 s)

-- it is whole, and its CRC is that of its type and data
unfoldable pub chunk_holds : List ℕ → Bool
chunk_holds s =
    cond (ltb (length s) (big_number s + 12)) false
    (eqb (big_number (after_content s)) (crc ((front_chunk s).type ++ (front_chunk s).content)))

abbrev pub with_chunk : ReadChunk → Option (List ReadChunk) → Option (List ReadChunk)
with_chunk x none = none
with_chunk x (some xs) = some (x ∷ xs)

-- the chunks of some bytes, where they are fewer than f
unfoldable pub chunks_of : ℕ → List ℕ → Option (List ReadChunk)
chunks_of zero s = none
chunks_of (suc f) [] = some []
chunks_of (suc f) (b ∷ s) =
    let more : Option (List ReadChunk) = chunks_of f (drop 4 (after_content (b ∷ s))) in
    cond (chunk_holds (b ∷ s)) (with_chunk (front_chunk (b ∷ s)) more) none

unfoldable pub chunks_in : List ℕ → Option (List ReadChunk)
chunks_in s = cond (same_bytes (take 8 s) signature) (chunks_of (length s) (drop 8 s)) none

-- "the concatenation of the contents of all the IDAT chunks"
unfoldable pub stream_of : List ReadChunk → List ℕ
stream_of [] = []
stream_of (x ∷ xs) = cond (same_bytes x.type (ascii "IDAT")) x.content [] ++ stream_of xs

-- ---- stored blocks
abbrev pub block_content : List ℕ → List ℕ
block_content s = take (low_number (drop 1 s)) (drop 5 s)

abbrev pub after_block : List ℕ → List ℕ
after_block s = drop (low_number (drop 1 s)) (drop 5 s)

-- a whole block is at the front: its type is 00, and LEN and NLEN are each other's complement
unfoldable pub block_holds : List ℕ → Bool
block_holds s =
    cond (ltb (length s) (low_number (drop 1 s) + 5)) false
    (cond (eqb (get_or s 0 0 / 2 % 4) 0) (eqb (low_number (drop 1 s) + low_number (drop 3 s)) 65535) false)

-- what the blocks hold, and what stands after the last one
pub record Unstored : Type 0 where
  pub content : List ℕ
  pub rest : List ℕ

abbrev pub with_block : List ℕ → Option Unstored → Option Unstored
with_block b none = none
with_block b (some u) = some (record { content = b ++ u.content; rest = u.rest })

-- the blocks of some bytes up to the one that says it is the last, where they are at most f
unfoldable pub blocks_of : ℕ → List ℕ → Option Unstored
blocks_of zero s = none
blocks_of (suc f) s =
    let more : Option Unstored = blocks_of f (after_block s) in
    cond (block_holds s)
    (cond (eqb (get_or s 0 0 % 2) 1) (some (record { content = block_content s; rest = after_block s })) (with_block (block_content s) more))
    none

-- RFC 1950: the method is 8 with a window of at most 32768 bytes, the two bytes are "a multiple of 31", there is no dictionary
unfoldable pub front_holds : List ℕ → Bool
front_holds s =
    cond (eqb (get_or s 0 0 % 16) 8)
    (cond (ltb 7 (get_or s 0 0 / 16)) false (cond (eqb ((get_or s 0 0 * 256 + get_or s 1 0) % 31) 0) (eqb (get_or s 1 0 / 32 % 2) 0) false))
    false

-- the checksum, and nothing else, stands after the blocks
abbrev pub sum_checked : Option Unstored → Option (List ℕ)
sum_checked none = none
sum_checked (some u) =
    cond (eqb (length u.rest) 4) (cond (eqb (big_number u.rest) (adler u.content)) (some u.content) none) none

unfoldable pub unstored : List ℕ → Option (List ℕ)
unstored s = cond (front_holds s) (sum_checked (blocks_of (length s) (drop 2 s))) none

-- ---- scanlines: h of them, of w samples each, and nothing after them
abbrev pub with_scanline : List ℕ → Option (List (List ℕ)) → Option (List (List ℕ))
with_scanline row none = none
with_scanline row (some rows) = some (row ∷ rows)

unfoldable pub scanlines_of : ℕ → ℕ → List ℕ → Option (List (List ℕ))
scanlines_of w zero [] = some []
scanlines_of w zero (x ∷ d) = none
scanlines_of w (suc h) d =
    let more : Option (List (List ℕ)) = scanlines_of w h (drop w (drop 1 d)) in
    cond (ltb (length d) (w + 1)) none (cond (eqb (get_or d 0 0) 0) (with_scanline (take w (drop 1 d)) more) none)

-- ---- a picture of indexed colour, 8 bits a sample, no filter, not interlaced
pub record Picture : Type 0 where
  pub width : ℕ
  pub height : ℕ
  pub palette : List ℕ
  pub rows : List (List ℕ)

unfoldable pub header_holds : ReadChunk → Bool
header_holds x =
    cond (same_bytes x.type (ascii "IHDR"))
    (cond (eqb (length x.content) 13) (same_bytes (drop 8 x.content) (8 ∷ 3 ∷ 0 ∷ 0 ∷ 0 ∷ [])) false)
    false

-- the last chunk is the end of the file
unfoldable pub last_is_end : List ReadChunk → Bool
last_is_end [] = false
last_is_end (x ∷ []) = same_bytes x.type (ascii "IEND")
last_is_end (x ∷ y ∷ xs) = last_is_end (y ∷ xs)

abbrev pub with_rows : ReadChunk → ReadChunk → Option (List (List ℕ)) → Option Picture
with_rows header colours none = none
with_rows header colours (some rows) =
    some
    (record {
      width = big_number header.content;
      height = big_number (drop 4 header.content);
      palette = colours.content;
      rows = rows;
    })

abbrev pub with_data : ReadChunk → ReadChunk → Option (List ℕ) → Option Picture
with_data header colours none = none
with_data header colours (some d) =
    with_rows header colours (scanlines_of (big_number header.content) (big_number (drop 4 header.content)) d)

-- the header first, then the palette
unfoldable pub picture_of : Option (List ReadChunk) → Option Picture
picture_of none = none
picture_of (some []) = none
picture_of (some (x ∷ [])) = none
picture_of (some (x ∷ y ∷ xs)) =
    cond (header_holds x)
    (cond (same_bytes y.type (ascii "PLTE")) (cond (last_is_end xs) (with_data x y (unstored (stream_of xs))) none) none)
    none

-- what a file shows
unfoldable pub picture_in : List ℕ → Option Picture
picture_in s = picture_of (chunks_in s)
