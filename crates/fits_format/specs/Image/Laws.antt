-- The laws of an image's pixels. Assumes nothing.
use Rattle.std.specs.Prelude.{ℕ, zero, suc, ◌+◌, ◌*◌, ◌≤◌, ◌<◌, ◌≡◌, refl, false, List, [], ◌∷◌, ◌++◌, map, length, take, drop, get_or, ltb, pos}
use Rattle.std.proofs.Common.{not-suc-le-zero, le_of_suc-le-suc, arith, sym, ap, ◌∙◌, get_or-drop, ltb-false, lt-ltb}
use Rattle.std.proofs.lemmas.List.{take-append-le}
use Rattle.bitstream.specs.Bits.{Below}
use Rattle.bitstream.specs.Bits.Laws.{below-nil, below-cons, below-drop}
use Rattle.row_format.specs.Lists.{any}
use Rattle.row_format.specs.Lists.Laws.{by-test, any-false-head, any-false-tail}
use Rattle.fits_format.specs.Image.{twos_complement, number_at, big_endian, out_of_range, height_of}

-- ---- the numbers
pub length-big_endian : (n : ℕ) (s : List ℕ) → length (big_endian n s) ≡ n
unfolding big_endian
length-big_endian zero s = refl
length-big_endian (suc n) s = ap suc (length-big_endian n (drop 2 s))

number_at-drop : (k at : ℕ) (s : List ℕ) → number_at at (drop k s) ≡ number_at (k + at) s
unfolding number_at
number_at-drop k at s =
    let e : k + (at + 1) ≡ k + at + 1 = omega arith in
    rw (get_or-drop k s at 0, get_or-drop k s (at + 1) 0, e)

pub big_endian-at : (n : ℕ) (s : List ℕ) (i : ℕ) → i < n → get_or (big_endian n s) i 0 ≡ number_at (2 * i) s
unfolding big_endian
big_endian-at zero s i h = absurd (not-suc-le-zero h)
big_endian-at (suc n) s zero h = refl
big_endian-at (suc n) s (suc i) h =
    let e : 2 + 2 * i ≡ 2 * suc i = omega arith in
    big_endian-at n (drop 2 s) i (le_of_suc-le-suc h) ∙ number_at-drop 2 (2 * i) s ∙ ap (λ (k : ℕ). number_at k s) e

pub below-big_endian : (n : ℕ) (s : List ℕ) → Below 256 s → Below 65536 (big_endian n s)
unfolding big_endian number_at
below-big_endian zero s b = below-nil (omega arith)
below-big_endian (suc n) s b =
    below-cons (omega (arith, b.below 0, b.below 1)) (below-big_endian n (drop 2 s) (below-drop 2 s b))

twice : (n : ℕ) → 2 * suc n ≡ suc (suc (2 * n))
twice n = omega arith

-- no byte after them is looked at
pub big_endian-take : (n : ℕ) (s : List ℕ) → big_endian n (take (2 * n) s) ≡ big_endian n s
unfolding big_endian number_at
big_endian-take zero s = refl
big_endian-take (suc n) [] = rw (twice n)
big_endian-take (suc n) (x ∷ []) = rw (twice n)
big_endian-take (suc n) (x ∷ y ∷ s) = rw (twice n, big_endian-take n s)

pub big_endian-front : (n : ℕ) (s t : List ℕ) → 2 * n ≤ length s → big_endian n (s ++ t) ≡ big_endian n s
big_endian-front n s t there =
    sym (big_endian-take n (s ++ t)) ∙ ap (big_endian n) (take-append-le (2 * n) s t there) ∙ big_endian-take n s

-- ---- heights: a number of 16 bits stands for a pixel outside 0 to 4095 exactly when it is above 4095
out_of_range-twos_complement : (v : ℕ) → out_of_range (twos_complement v) ≡ ltb 4095 v
unfolding twos_complement
out_of_range-twos_complement v =
    by-test (ltb v 32768)
    (λ e. rw e)
    (λ e. rw e (sym (lt-ltb 4095 v (omega (arith, ltb-false v 32768 e)))))

pub out_of_range-any : (vs : List ℕ) → any out_of_range (map twos_complement vs) ≡ any (ltb 4095) vs
unfolding any
out_of_range-any [] = refl
out_of_range-any (v ∷ vs) = rw (out_of_range-twos_complement v, out_of_range-any vs)

height_of-twos_complement : (v : ℕ) → ltb 4095 v ≡ false → height_of (twos_complement v) ≡ v
unfolding twos_complement
height_of-twos_complement v e = rw (lt-ltb v 32768 (omega (arith, ltb-false 4095 v e)))

pub heights-same : (vs : List ℕ) → any (ltb 4095) vs ≡ false → map height_of (map twos_complement vs) ≡ vs
heights-same [] e = refl
heights-same (v ∷ vs) e =
    rw (height_of-twos_complement v (any-false-head (ltb 4095) v vs e), heights-same vs (any-false-tail (ltb 4095) v vs e))

pub below-heights : (vs : List ℕ) → any (ltb 4095) vs ≡ false → Below 65536 vs
below-heights [] e = below-nil (omega arith)
below-heights (v ∷ vs) e =
    below-cons (omega (arith, ltb-false 4095 v (any-false-head (ltb 4095) v vs e))) (below-heights vs (any-false-tail (ltb 4095) v vs e))

-- and such heights are the pixels themselves
pos-twos_complement : (v : ℕ) → ltb 4095 v ≡ false → pos v ≡ twos_complement v
unfolding twos_complement
pos-twos_complement v e = rw (lt-ltb v 32768 (omega (arith, ltb-false 4095 v e)))

pub pixels-same : (vs : List ℕ) → any (ltb 4095) vs ≡ false → map pos vs ≡ map twos_complement vs
pixels-same [] e = refl
pixels-same (v ∷ vs) e =
    rw (pos-twos_complement v (any-false-head (ltb 4095) v vs e), pixels-same vs (any-false-tail (ltb 4095) v vs e))
