-- The laws of samples: what is written is read back, and what is read is written as the bytes it was. Assumes nothing.
use Rattle.std.specs.Prelude.{ℕ, zero, suc, ◌+◌, ◌*◌, ◌/◌, ◌%◌, ◌≤◌, ◌<◌, ◌≡◌, refl, List, [], ◌∷◌, ◌++◌, length, take, drop, get_or}
use Rattle.std.proofs.Common.{add-one, arith, sym, ap, ◌∙◌, append_assoc, length-append, length-drop, take-suc, take-add, drop_at, drop-drop}
use Rattle.std.proofs.lemmas.List.{drop-append-le}
use Rattle.bitstream.specs.Bits.{Below}
use Rattle.bitstream.specs.Bits.Laws.{below-head, below-tail, below-drop}
use Rattle.fits_format.specs.Image.{number_at, big_endian}
use Rattle.fits_format.specs.Image.Laws.{big_endian-front}
use Rattle.pgm_format.specs.Samples.{samples_of, lines_bytes, lines_in}

-- ---- as they are written
pub samples_of-append : (a b : List ℕ) → samples_of (a ++ b) ≡ samples_of a ++ samples_of b
unfolding samples_of
samples_of-append [] b = refl
samples_of-append (h ∷ a) b = ap (λ (l : List ℕ). h / 256 ∷ h % 256 ∷ l) (samples_of-append a b)

pub length-samples_of : (hs : List ℕ) → length (samples_of hs) ≡ 2 * length hs
unfolding samples_of
length-samples_of [] = refl
length-samples_of (h ∷ hs) = omega (arith, length-samples_of hs)

-- the samples of one height more
pub samples-more : (hs : List ℕ) (i : ℕ) → i < length hs
    → samples_of (take (i + 1) hs) ≡ samples_of (take i hs) ++ (get_or hs i 0 / 256 ∷ get_or hs i 0 % 256 ∷ [])
unfolding samples_of
samples-more hs i h =
    rw (add-one i, take-suc hs i 0 h) (samples_of-append (take i hs) (get_or hs i 0 ∷ []))

pub samples-none : (hs : List ℕ) → samples_of (take 0 hs) ≡ []
unfolding samples_of
samples-none hs = refl

-- ---- heights are read back
pub big_endian-samples_of : (hs rest : List ℕ) → big_endian (length hs) (samples_of hs ++ rest) ≡ hs
unfolding big_endian number_at samples_of
big_endian-samples_of [] rest = refl
big_endian-samples_of (h ∷ hs) rest =
    let first : 256 * (h / 256) + h % 256 ≡ h = omega arith in
    rw (first, big_endian-samples_of hs rest)

-- ---- bytes are written as they were read
pub samples_of-big_endian : (n : ℕ) (s : List ℕ) → Below 256 s → 2 * n ≤ length s → samples_of (big_endian n s) ≡ take (2 * n) s
unfolding big_endian number_at samples_of
samples_of-big_endian zero s bytes there = refl
samples_of-big_endian (suc n) [] bytes there = absurd (omega arith)
samples_of-big_endian (suc n) (a ∷ []) bytes there = absurd (omega arith)
samples_of-big_endian (suc n) (a ∷ b ∷ s) bytes there =
    let low : b < 256 = below-head (below-tail bytes) in
    let higher : (256 * a + b) / 256 ≡ a = omega arith in
    let lower : (256 * a + b) % 256 ≡ b = omega arith in
    let two : 2 * suc n ≡ suc (suc (2 * n)) = omega arith in
    rw (higher, lower, two, samples_of-big_endian n s (below-tail (below-tail bytes)) (omega arith))

-- ---- lines
-- all of them have w heights
abbrev pub AllLong : ℕ → List (List ℕ) → Type 0
AllLong w [] = Unit {0}
AllLong w (l ∷ ls) = (length l ≡ w) × AllLong w ls

pub length-lines_bytes : (w : ℕ) (ls : List (List ℕ)) → AllLong w ls → length (lines_bytes ls) ≡ 2 * w * length ls
unfolding lines_bytes
length-lines_bytes w [] long = omega arith
length-lines_bytes w (l ∷ ls) long =
    let size : 2 * w * suc (length ls) ≡ 2 * w + 2 * w * length ls = omega arith in
    rw (size, length-append (samples_of l) (lines_bytes ls)) (omega (arith, length-samples_of l, length-lines_bytes w ls long.1, long.0))

pub lines_in-lines_bytes : (w : ℕ) (ls : List (List ℕ)) (rest : List ℕ) → AllLong w ls
    → lines_in w (length ls) (lines_bytes ls ++ rest) ≡ ls
unfolding lines_in lines_bytes
lines_in-lines_bytes w [] rest long = refl
lines_in-lines_bytes w (l ∷ ls) rest long =
    let size : length (samples_of l) ≡ 2 * w = omega (arith, length-samples_of l, long.0) in
    rw (append_assoc (samples_of l) (lines_bytes ls) rest, drop_at (samples_of l) (lines_bytes ls ++ rest) (2 * w) size)
    (rw (lines_in-lines_bytes w ls rest long.1)
    (ap (◌∷ ls) (ap (λ (n : ℕ). big_endian n (samples_of l ++ (lines_bytes ls ++ rest))) (sym long.0)
    ∙ big_endian-samples_of l (lines_bytes ls ++ rest))))

pub lines_bytes-lines_in : (w n : ℕ) (s : List ℕ) → Below 256 s → 2 * w * n ≤ length s → lines_bytes (lines_in w n s) ≡ take (2 * w * n) s
unfolding lines_in lines_bytes
lines_bytes-lines_in w zero s bytes there = let none : 2 * w * 0 ≡ 0 = omega arith in rw none
lines_bytes-lines_in w (suc n) s bytes there =
    let size : 2 * w * suc n ≡ 2 * w + 2 * w * n = omega arith in
    let rest = lines_bytes-lines_in w n (drop (2 * w) s) (below-drop (2 * w) s bytes) (omega (arith, there, size, length-drop (2 * w) s)) in
    rw (size, samples_of-big_endian w s bytes (omega (arith, there, size)), rest) (sym (take-add (2 * w) (2 * w * n) s))

pub length-lines_in : (w n : ℕ) (s : List ℕ) → length (lines_in w n s) ≡ n
unfolding lines_in
length-lines_in w zero s = refl
length-lines_in w (suc n) s = ap suc (length-lines_in w n (drop (2 * w) s))

-- ---- what follows lines changes none of them
pub lines_in-front : (w n : ℕ) (s t : List ℕ) → 2 * w * n ≤ length s → lines_in w n (s ++ t) ≡ lines_in w n s
unfolding lines_in
lines_in-front w zero s t there = refl
lines_in-front w (suc n) s t there =
    let size : 2 * w * suc n ≡ 2 * w + 2 * w * n = omega arith in
    let rest : 2 * w * n ≤ length (drop (2 * w) s) = omega (arith, there, size, length-drop (2 * w) s) in
    rw (
      big_endian-front w s t (omega (arith, there, size)),
      drop-append-le (2 * w) s t (omega (arith, there, size)),
      lines_in-front w n (drop (2 * w) s) t rest,
    )

pub lines_in-last : (w n : ℕ) (s : List ℕ) → lines_in w (suc n) s ≡ lines_in w n s ++ (big_endian w (drop (2 * w * n) s) ∷ [])
unfolding lines_in
lines_in-last w zero s = let none : 2 * w * 0 ≡ 0 = omega arith in rw none
lines_in-last w (suc n) s =
    let size : 2 * w + 2 * w * n ≡ 2 * w * suc n = omega arith in
    rw (lines_in-last w n (drop (2 * w) s), drop-drop (2 * w * n) (2 * w) s, size)
