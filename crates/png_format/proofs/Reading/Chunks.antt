-- Chunks are read as they are written, whatever follows. Assumes nothing.
use Prim.Native.Nat.{ℕ, zero, suc, ◌+◌, ◌*◌, ◌/◌, ◌%◌, ◌≤◌, ◌<◌}
use Rattle.std.proofs.Common.{arith, ◌∙◌}
use Rattle.std.specs.Prelude.{◌≡◌, refl, Bool, true, length, take, drop, eqb}
use Rattle.std.proofs.Math.Path.{sym, ap, ap₂}
use Rattle.std.proofs.Math.Bool.{false, cond}
use mathlib.Core.List.{List, [], ◌∷◌, ◌++◌, append_assoc}
use Rattle.std.proofs.Math.Option.{none, some}
use Rattle.std.proofs.Math.ListN.{length-append}
use Rattle.std.proofs.Math.Seq.{take-append_seam, drop-append_seam}
use borrow.Author.Tests.{eq-eqb, le-ltb}
use Rattle.text.specs.Same.{same_bytes}
use Rattle.png_format.specs.Crc.{crc}
use Rattle.png_format.specs.Crc.Laws.{crc-lt}
use Rattle.png_format.specs.Chunk.{big_four, chunk}
use Rattle.png_format.specs.Chunk.Laws.{length-chunk}
use Rattle.png_format.specs.Png.{signature}
use Rattle.png_format.specs.Reading.{big_number, ReadChunk, front_chunk, after_content, chunk_holds, with_chunk, chunks_of, chunks_in}
use Rattle.png_format.specs.Chunks.{chunk_bytes, Writable}

-- ---- the length
pub big_four-back : (v : ℕ) (s : List ℕ) → v < 4294967296 → big_number (big_four v ++ s) ≡ v
big_four-back v s h =
    let high : v / 16777216 % 256 * 256 + v / 65536 % 256 ≡ v / 65536 = omega arith in
    let low : v / 65536 * 256 + v / 256 % 256 ≡ v / 256 = omega arith in
    rw (high, low) (omega arith)

-- ---- a chunk at the front
module _ (p q r t : ℕ) (d rest : List ℕ) (small : length d < 4294967296) where
  letters : List ℕ
  letters = p ∷ q ∷ r ∷ t ∷ []

  sum : List ℕ
  unfolding letters
  sum = big_four (crc (letters ++ d))

  size-read : big_number (chunk letters d ++ rest) ≡ length d
  unfolding chunk letters
  size-read = big_four-back (length d) (letters ++ d ++ sum ++ rest) small

  from-content : drop 8 (chunk letters d ++ rest) ≡ d ++ (sum ++ rest)
  unfolding chunk letters sum
  from-content = append_assoc d sum rest

  content-read : take (big_number (chunk letters d ++ rest)) (drop 8 (chunk letters d ++ rest)) ≡ d
  content-read = ap₂ take size-read from-content ∙ take-append_seam d (sum ++ rest)

  after_read : after_content (chunk letters d ++ rest) ≡ sum ++ rest
  after_read = ap₂ drop size-read from-content ∙ drop-append_seam d (sum ++ rest)

  front_read_lem : front_chunk (chunk letters d ++ rest) ≡ record { type = letters; content = d }
  unfolding chunk letters
  front_read_lem = ap (λ (l : List ℕ). record { type = letters; content = l }) content-read

  whole : big_number (chunk letters d ++ rest) + 12 ≤ length (chunk letters d ++ rest)
  unfolding letters
  whole = omega (arith, size-read, length-append (chunk letters d) rest, length-chunk letters d)

  sum-read : big_number (after_content (chunk letters d ++ rest)) ≡ crc (letters ++ d)
  unfolding sum
  sum-read = ap big_number after_read ∙ big_four-back (crc (letters ++ d)) rest (crc-lt (letters ++ d))

  chunk-holds : chunk_holds (chunk letters d ++ rest) ≡ true
  unfolding chunk_holds
  chunk-holds =
      let s : List ℕ = chunk letters d ++ rest in
      let over : crc ((front_chunk s).type ++ (front_chunk s).content) ≡ crc (letters ++ d) =
      ap (λ (x : ReadChunk). crc (x.type ++ x.content)) front_read_lem in
      ap (λ (b : Bool). cond b false (eqb (big_number (after_content s)) (crc ((front_chunk s).type ++ (front_chunk s).content))))
      (le-ltb (length s) (big_number s + 12) whole)
      ∙ eq-eqb (big_number (after_content s)) (crc ((front_chunk s).type ++ (front_chunk s).content)) (sum-read ∙ sym over)

  chunk_read : (f : ℕ) → chunks_of (suc f) (chunk letters d ++ rest) ≡ with_chunk (record { type = letters; content = d }) (chunks_of f rest)
  unfolding chunks_of chunk letters sum
  chunk_read f =
      let s : List ℕ = chunk letters d ++ rest in
      ap (λ (b : Bool). cond b (with_chunk (front_chunk s) (chunks_of f (drop 4 (after_content s)))) none) chunk-holds
      ∙ ap₂ (λ (x : ReadChunk) (l : List ℕ). with_chunk x (chunks_of f (drop 4 l))) front_read_lem after_read

chunk_front : (type d rest : List ℕ) (f : ℕ) → length type ≡ 4 → length d < 4294967296
    → chunks_of (suc f) (chunk type d ++ rest) ≡ with_chunk (record { type = type; content = d }) (chunks_of f rest)
unfolding letters
chunk_front [] d rest f four small = absurd (omega arith)
chunk_front (p ∷ []) d rest f four small = absurd (omega arith)
chunk_front (p ∷ q ∷ []) d rest f four small = absurd (omega arith)
chunk_front (p ∷ q ∷ r ∷ []) d rest f four small = absurd (omega arith)
chunk_front (p ∷ q ∷ r ∷ t ∷ []) d rest f four small = chunk_read p q r t d rest small f
chunk_front (p ∷ q ∷ r ∷ t ∷ x ∷ type) d rest f four small = absurd (omega arith)

-- ---- chunks one after another
chunks-back : (f : ℕ) (xs : List ReadChunk) → Writable xs → length xs ≤ f → chunks_of (suc f) (chunk_bytes xs) ≡ some xs
unfolding chunks_of
chunks-back f [] h few = refl
chunks-back zero (x ∷ xs) h few = absurd (omega arith)
chunks-back (suc f) (x ∷ xs) h few =
    chunk_front x.type x.content (chunk_bytes xs) (suc f) h.0 h.1
    ∙ ap (with_chunk x) (chunks-back f xs h.2 (omega arith))

pub chunk_bytes-append : (xs ys : List ReadChunk) → chunk_bytes (xs ++ ys) ≡ chunk_bytes xs ++ chunk_bytes ys
chunk_bytes-append [] ys = refl
chunk_bytes-append (x ∷ xs) ys =
    ap (chunk x.type x.content ++◌) (chunk_bytes-append xs ys)
    ∙ sym (append_assoc (chunk x.type x.content) (chunk_bytes xs) (chunk_bytes ys))

length-chunk_bytes : (xs : List ReadChunk) → length xs ≤ length (chunk_bytes xs)
length-chunk_bytes [] = omega arith
length-chunk_bytes (x ∷ xs) =
    omega (arith, length-chunk_bytes xs, length-append (chunk x.type x.content) (chunk_bytes xs), length-chunk x.type x.content)

pub chunks-in-back : (xs : List ReadChunk) → Writable xs → chunks_in (signature ++ chunk_bytes xs) ≡ some xs
unfolding chunks_in same_bytes
chunks-in-back xs h = chunks-back (length (drop 1 (signature ++ chunk_bytes xs))) xs h (omega (arith, length-chunk_bytes xs))
