-- The laws of a line's numbers: as 4 bytes each and as adaptive numbers they come back. Assumes nothing.
use Rattle.std.specs.Prelude.{ℕ, zero, suc, ◌-◌, ◌*◌, ◌/◌, ◌≤◌, ◌<◌, ◌≡◌, refl, true, List, [], ◌∷◌, ◌++◌, map, length, take, drop, ℤ, pos, negsuc}
use Rattle.std.proofs.Common.{arith, mul-suc, sym, ap, ap₂, ◌∙◌, append_assoc, length-append, length-drop, length-take-le, lt-ltb, le-ltb, le-leb}
use Rattle.std.proofs.Math.Decide.{dec_lt}
use Rattle.std.proofs.Math.Logic.{by_cases}
use Rattle.std.proofs.Math.Seq.{drop-append_seam}
use Rattle.bitstream.specs.Bits.{flat, bits_of, bytes_of, words_of, Below}
use Rattle.bitstream.specs.Bits.Laws.{below-head, below-tail, below-take, below-flat, length-flat, length_cut, flat-take, flat-cut}
use Rattle.row_format.specs.BitLaws.{pad-within, cut-flat-all}
use Rattle.adaptive.specs.Number.{NumberReading, accepted, rejected, signed_type, read_as, shortest}
use Rattle.adaptive.specs.Number.Lawful.{signed-lawful, signed_range}
use Rattle.adaptive.specs.Number.Read.{read_as-shortest, read_as-used, read_as-rejected, shortest-count}
use Rattle.sheet_format.specs.Line.{word_of, signed_of, line_bytes, Line, numbers, faulty, prepend, follow, read_line}

-- ---- two's complement
low_word : (w : ℕ) → w < 2147483648 → signed_of w ≡ pos w
low_word w h = rw (lt-ltb w 2147483648 h)

high_word : (w : ℕ) → 2147483648 ≤ w → signed_of w ≡ negsuc (4294967295 - w)
high_word w h = rw (le-ltb w 2147483648 h)

pub word_of-signed_of : (w : ℕ) → w < 4294967296 → word_of (signed_of w) ≡ w
word_of-signed_of w h = by_cases (dec_lt w 2147483648)
    (λ low. rw (low_word w low))
    (λ high. rw (high_word w (omega arith)) (omega arith))

pub signed_of-range : (w : ℕ) → w < 4294967296 → signed_type.in_range (signed_of w) ≡ true
signed_of-range w h = signed_range (signed_of w) ∙ by_cases (dec_lt w 2147483648)
    (λ low. rw (low_word w low) (le-leb w 2147483647 (omega arith)))
    (λ high. rw (high_word w (omega arith)) (le-leb (4294967295 - w) 2147483647 (omega arith)))

pub map-word_of-signed_of : (ws : List ℕ) → Below 4294967296 ws → map word_of (map signed_of ws) ≡ ws
map-word_of-signed_of [] low = refl
map-word_of-signed_of (w ∷ ws) low = ap₂ ◌∷◌ (word_of-signed_of w (below-head low)) (map-word_of-signed_of ws (below-tail low))

-- the bytes of the numbers that some bytes hold are those bytes, but for part of a number at the end
pub bytes_of-words_of : (s : List ℕ) → Below 256 s
    → bytes_of (4 * length (words_of s)) (flat 32 (words_of s)) ≡ take (4 * length (words_of s)) s
bytes_of-words_of s bytes =
    let n = length s / 4 in
    let place : 32 * (length s / 4) ≡ 8 * (4 * (length s / 4)) = omega arith in
    let within : 32 * (length s / 4) ≤ length (bits_of s) = rw (length-flat 8 s) (omega arith) in
    let words : flat 32 (words_of s) ≡ bits_of (take (4 * n) s) =
    flat-cut 32 n (bits_of s) (below-flat 8 s)
    ∙ pad-within (32 * n) (bits_of s) within
    ∙ ap (λ (k : ℕ). take k (bits_of s)) place
    ∙ sym (flat-take 8 (4 * n) s) in
    let size : length (take (4 * n) s) ≡ 4 * n = length-take-le (4 * n) s (omega arith) in
    rw (length_cut 32 n (bits_of s), words) (cut-flat-all 8 (4 * n) (take (4 * n) s) (below-take (4 * n) s bytes) size)

-- ---- adaptive numbers, one after another
abbrev pub InRange : List ℤ → Type 0
InRange [] = Unit {0}
InRange (v ∷ vs) = (signed_type.in_range v ≡ true) × InRange vs

pub in-range-signed_of : (ws : List ℕ) → Below 4294967296 ws → InRange (map signed_of ws)
in-range-signed_of [] low = tt
in-range-signed_of (w ∷ ws) low = (signed_of-range w (below-head low), in-range-signed_of ws (below-tail low))

-- what is written is read back, whatever follows
pub read_line-line_bytes : (vs : List ℤ) (r : List ℕ) → InRange vs
    → read_line (length vs) (line_bytes vs ++ r) ≡ numbers vs (length (line_bytes vs))
unfolding read_line line_bytes
read_line-line_bytes [] r ok = refl
read_line-line_bytes (v ∷ vs) r ok =
    let b = shortest signed_type v in
    let rest = line_bytes vs ++ r in
    rw (
      append_assoc b (line_bytes vs) r,
      read_as-shortest signed_type signed-lawful v ok.0 rest,
      drop-append_seam b rest,
      read_line-line_bytes vs r ok.1,
      length-append b (line_bytes vs),
    )

pub length-line_bytes : (vs : List ℤ) → length (line_bytes vs) ≤ 5 * length vs
unfolding line_bytes
length-line_bytes [] = omega arith
length-line_bytes (v ∷ vs) =
    rw (length-append (shortest signed_type v) (line_bytes vs), mul-suc 5 (length vs))
    (omega (arith, (shortest-count signed_type v).1, length-line_bytes vs))

-- ---- what a reading of n numbers of the bytes s gives
pub record Numbers (n : ℕ) (s : List ℕ) (vs : List ℤ) (u : ℕ) : Type 0 where
  pub count : length vs ≡ n
  pub there : u ≤ length s

abbrev pub GivesLine : ℕ → List ℕ → Line → Type 0
GivesLine n s (numbers vs u) = Numbers n s vs u
GivesLine n s (faulty e) = 0 < e

prepend-gives : (n : ℕ) (s : List ℕ) (v : ℤ) (u : ℕ) (x : Line) → u ≤ length s → GivesLine n (drop u s) x
    → GivesLine (suc n) s (prepend v u x)
prepend-gives n s v u (numbers vs w) h g =
    record { count = ap suc g.count; there = omega (arith, g.there, length-drop u s) }
prepend-gives n s v u (faulty e) h g = g

pub read_line-gives : (n : ℕ) (s : List ℕ) → GivesLine n s (read_line n s)
unfolding read_line
read_line-gives zero s = record { count = refl; there = omega arith }
read_line-gives (suc n) s = by-reading (read_as signed_type s) refl (λ u. read_line-gives n (drop u s))
  where
    by-reading : (x : NumberReading ℤ) → read_as signed_type s ≡ x → ((u : ℕ) → GivesLine n (drop u s) (read_line n (drop u s)))
        → GivesLine (suc n) s (follow x (λ u. read_line n (drop u s)))
    by-reading (accepted v u) e ih = prepend-gives n s v u (read_line n (drop u s)) (read_as-used signed_type s v u e).2 (ih u)
    by-reading (rejected e) q ih = read_as-rejected signed_type s e q
