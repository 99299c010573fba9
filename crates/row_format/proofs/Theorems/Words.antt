-- Rows in words and pixels in bytes: what is written has no stray bit, and pixels come back as the bytes they were.
-- Assumes nothing.
use Rattle.std.specs.Prelude.{ℕ, zero, suc, ◌+◌, ◌-◌, ◌*◌, ◌/◌, ◌%◌, ◌≤◌, ◌≡◌, refl, false, List, [], ◌∷◌, ◌++◌, length, take, get_or, replicate, eqb}
use Rattle.std.proofs.Common.{arith, sym, ap, ◌∙◌, take_at, take_all, length-take-le}
use Rattle.std.proofs.lemmas.List.{length-replicate}
use Rattle.std.proofs.Math.Seq.{drop-append_seam}
use Rattle.bitstream.specs.Bits.{digits, flat, bits_of, bytes_of, halves_of, words_for, Below}
use Rattle.bitstream.specs.Bits.Laws.{below-nil, below-append, below-take, below-digits, below-flat, length-flat, length_cut, flat-take, flat-cut}
use Rattle.row_format.specs.Lists.{any}
use Rattle.row_format.specs.BitLaws.{pad-within, cut-flat-all}
use Rattle.row_format.specs.Table.{low_limit, codeword, codeword_at}
use Rattle.row_format.specs.Row.{Item, difference, bad_pixel, bad_bias, escape, fresh, item_bits, items_for, bits, row_bits}
use Rattle.row_format.specs.Reading.{stray}

-- ---- a row's bits are bits
below-codeword_at : (t : List ℕ) (j : ℕ) → Below 2 (codeword_at t j)
unfolding codeword_at codeword
below-codeword_at t j = below-digits (get_or t (3 + j) 0 % 32) (get_or t (3 + j) 0 / 32)

below-item_bits : (t : List ℕ) (i : Item) → Below 2 (item_bits t i)
below-item_bits t (difference k) = below-codeword_at t (3 + (k - low_limit t))
below-item_bits t bad_pixel = below-codeword_at t 1
below-item_bits t bad_bias = below-codeword_at t 2
below-item_bits t (escape h) = below-append (codeword_at t 0) (digits 12 h) (below-codeword_at t 0) (below-digits 12 h)

pub below-bits : (t : List ℕ) (is : List Item) → Below 2 (bits t is)
unfolding bits
below-bits t [] = below-nil (omega arith)
below-bits t (i ∷ is) = below-append (item_bits t i) (bits t is) (below-item_bits t i) (below-bits t is)

pub below-row_bits : (t ps : List ℕ) → Below 2 (row_bits t ps)
unfolding row_bits
below-row_bits t ps = below-bits t (items_for t fresh ps)

-- ---- no stray bit
any-zeros : (k : ℕ) → any (eqb 1) (replicate k 0) ≡ false
unfolding any
any-zeros zero = refl
any-zeros (suc k) = any-zeros k

pub stray-zeros : (b r : List ℕ) → stray (length b) (b ++ (replicate (32 * words_for (length b) - length b) 0 ++ r)) ≡ false
unfolding stray
stray-zeros b r =
    let k = 32 * words_for (length b) - length b in
    rw (drop-append_seam b (replicate k 0 ++ r), take_at (replicate k 0) r k (length-replicate k 0)) (any-zeros k)

-- ---- pixels as bytes
-- the bytes of the pixels that some bytes hold are those bytes, but for half a pixel at the end
pub bytes_of-halves_of : (pb : List ℕ) → Below 256 pb
    → bytes_of (2 * length (halves_of pb)) (flat 16 (halves_of pb)) ≡ take (2 * length (halves_of pb)) pb
bytes_of-halves_of pb bytes =
    let n = length pb / 2 in
    let place : 16 * (length pb / 2) ≡ 8 * (2 * (length pb / 2)) = omega arith in
    let within : 16 * (length pb / 2) ≤ length (bits_of pb) = rw (length-flat 8 pb) (omega arith) in
    let halves : flat 16 (halves_of pb) ≡ bits_of (take (2 * n) pb) =
    flat-cut 16 n (bits_of pb) (below-flat 8 pb)
    ∙ pad-within (16 * n) (bits_of pb) within
    ∙ ap (λ (k : ℕ). take k (bits_of pb)) place
    ∙ sym (flat-take 8 (2 * n) pb) in
    let size : length (take (2 * n) pb) ≡ 2 * n = length-take-le (2 * n) pb (omega arith) in
    rw (length_cut 16 n (bits_of pb), halves) (cut-flat-all 8 (2 * n) (take (2 * n) pb) (below-take (2 * n) pb bytes) size)

-- and the pixels that their bytes hold are the pixels
pub halves_of-bytes_of : (n : ℕ) (ps : List ℕ) → length ps ≡ n → Below 65536 ps → halves_of (bytes_of (2 * n) (flat 16 ps)) ≡ ps
halves_of-bytes_of n ps size low =
    let size-bits : length (flat 16 ps) ≡ 16 * n = length-flat 16 ps ∙ ap (16 *◌) size in
    let place : 8 * (2 * n) ≡ 16 * n = omega arith in
    let count : 2 * n / 2 ≡ n = omega arith in
    let same : bits_of (bytes_of (2 * n) (flat 16 ps)) ≡ flat 16 ps =
    flat-cut 8 (2 * n) (flat 16 ps) (below-flat 16 ps)
    ∙ rw place (pad-within (16 * n) (flat 16 ps) (omega arith) ∙ take_all (16 * n) (flat 16 ps) (omega arith)) in
    rw (length_cut 8 (2 * n) (flat 16 ps), count, same) (cut-flat-all 16 n ps low size)
