-- The laws of a row's pixels in bytes; the crate's contracts need no words of their own. Laws only. Assumes nothing.
use Rattle.std.specs.Prelude.{ℕ, suc, ◌+◌, ◌*◌, ◌/◌, ◌≤◌, ◌<◌, ◌≡◌, false, List, [], ◌∷◌, ◌++◌, length, drop, get_or, ltb}
use Rattle.std.proofs.Common.{add-one, arith, ap, ◌∙◌, drop-cons, ltb-false}
use Rattle.std.proofs.Math.Seq.{drop-length}
use Rattle.bitstream.specs.Bits.{digits, flat, bits_of, bytes_of, halves_of}
use Rattle.bitstream.specs.Bits.Laws.{length_digits, length_cut, cut-append}
use Rattle.row_format.specs.Lists.{any}
use Rattle.row_format.specs.Lists.Laws.{any-false-at}

pub length-halves : (s : List ℕ) → length (halves_of s) ≡ length s / 2
length-halves s = length_cut 16 (length s / 2) (bits_of s)

pub inside-halves : (s : List ℕ) {i : ℕ} → i < length s / 2 → i < length (halves_of s)
inside-halves s h = omega (arith, length-halves s)

pub past-halves : (s : List ℕ) {i : ℕ} → length s / 2 ≤ i → length (halves_of s) ≤ i
past-halves s h = omega (arith, length-halves s)

-- the bytes of one pixel more
pub bytes-cons : (n p : ℕ) (ps : List ℕ) → bytes_of (2 * suc n) (flat 16 (p ∷ ps)) ≡ bytes_of 2 (digits 16 p) ++ bytes_of (2 * n) (flat 16 ps)
unfolding flat
bytes-cons n p ps =
    let e : 2 * suc n ≡ 2 + 2 * n = omega arith in
    ap (λ (k : ℕ). bytes_of k (digits 16 p ++ flat 16 ps)) e ∙ cut-append 8 2 (2 * n) (digits 16 p) (flat 16 ps) (length_digits 16 p)

module _ (ps : List ℕ) (i : ℕ) where
  -- what is left of a row before its pixel i and after it
  pub drop_more : {pixel : ℕ} → i < length ps → pixel ≡ get_or ps i 0 → drop i ps ≡ pixel ∷ drop (i + 1) ps
  drop_more h e = drop-cons ps i 0 h ∙ rw (e, add-one i)

  pub drop-end : i ≤ length ps → length ps ≤ i → drop i ps ≡ []
  drop-end h g = let e : i ≡ length ps = omega arith in rw e (drop-length ps)

  -- a pixel of a row that has none above 4095
  pub pixel-most : {pixel : ℕ} → any (ltb 4095) ps ≡ false → i < length ps → pixel ≡ get_or ps i 0 → pixel ≤ 4095
  pixel-most none_above h e = rw e (ltb-false 4095 (get_or ps i 0) (any-false-at (ltb 4095) ps i 0 none_above h))
