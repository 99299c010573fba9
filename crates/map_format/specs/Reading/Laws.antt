-- The laws of reading maps. Assumes nothing.
use Rattle.std.specs.Prelude.{ℕ, zero, suc, ◌+◌, ◌*◌, ◌^◌, ◌<◌, ◌≡◌, refl, List, [], ◌∷◌, ◌++◌, length, take, drop, replicate, ltb}
use Rattle.std.proofs.Common.{mod-eq_of_lt, zero-add, arith, sym, ap, subst, ◌∙◌, length-append, take-append-drop, take_at, drop_at, length-take-le, ltb-false, le-ltb}
use Rattle.std.proofs.Math.Seq.{drop-append_seam}
use Rattle.bitstream.specs.Bits.{Below}
use Rattle.bitstream.specs.Bits.Laws.{below-nil, below-cons, below-take, below-drop}
use Rattle.bitstream.specs.Msb.{msb_digits, msb_num}
use Rattle.bitstream.specs.Msb.Laws.{length-msb_digits, msb_num-digits, msb_digits-num, msb_num-lt}
use Rattle.row_format.specs.Lists.Laws.{by-test}
use Rattle.map_format.specs.Reading.{Parse, stops, got, ◌then◌, read_field, sum, photon}

-- ---- what reading comes to
module _ {A : Type 0} where
  pub stops-got : {P : Type 0} {e : ℕ} {v : A} {r : List ℕ} → stops e ≡ got v r → P
  stops-got h = absurd (let z : ◌≡◌ {A = ℕ} 0 1 = cc in omega arith)

  pub got-value : {v w : A} {r s : List ℕ} → got v r ≡ got w s → v ≡ w
  got-value h = cc

  pub got-rest : {v w : A} {r s : List ℕ} → got v r ≡ got w s → r ≡ s
  got-rest h = cc

  -- what is true of the one is true of the other
  pub got_same : (P : A → List ℕ → Type 0) {v w : A} {r s : List ℕ} → got v r ≡ got w s → P v r → P w s
  got_same P {v} {w} {r} {s} e p = subst (λ (l : List ℕ). P w l) (got-rest e) (subst (λ (u : A). P u r) (got-value e) p)

-- where one reading after another is done, both are
pub then-got : {A B : Type 0} (x : Parse A) (f : A → List ℕ → Parse B) {w : B} {r : List ℕ} → x then f ≡ got w r
    → (v : A) × (s : List ℕ) × (x ≡ got v s) × (f v s ≡ got w r)
then-got (stops e) f h = stops-got h
then-got (got v s) f h = (v, s, refl, h)

-- ---- fields
pub read_field-append : (n : ℕ) (p r : List ℕ) → length p ≡ n → read_field n (p ++ r) ≡ got (msb_num p) r
unfolding read_field
read_field-append n p r e =
    rw (le-ltb (length (p ++ r)) n (omega (arith, length-append p r)), take_at p r n e, drop_at p r n e)

pub read_field-digits : (n v : ℕ) (r : List ℕ) → v < 2 ^ n → read_field n (msb_digits n v ++ r) ≡ got v r
read_field-digits n v r h =
    read_field-append n (msb_digits n v) r (length-msb_digits n v) ∙ rw (msb_num-digits n v, mod-eq_of_lt h)

-- one bit
pub read_field-bit : (x : ℕ) (r : List ℕ) → read_field 1 (x ∷ r) ≡ got x r
unfolding msb_num
read_field-bit x r =
    let value : x * 1 + 0 ≡ x = omega arith in
    read_field-append 1 (x ∷ []) r refl ∙ rw value

-- done: the bits are those of the value, and then the rest
pub read_field-got : (n : ℕ) (b : List ℕ) {v : ℕ} {r : List ℕ} → Below 2 b → read_field n b ≡ got v r
    → (b ≡ msb_digits n v ++ r) × (v < 2 ^ n)
unfolding read_field
read_field-got n b {v} {r} bin h =
    by-test (ltb (length b) n)
    (λ short. stops-got (rw short at h))
    (λ enough.
    let e : got (msb_num (take n b)) (drop n b) ≡ got v r = rw enough at h in
    let size : length (take n b) ≡ n = length-take-le n b (ltb-false (length b) n enough) in
    let few = below-take n b bin in
    let front : msb_digits n (msb_num (take n b)) ≡ take n b =
    ap (λ (k : ℕ). msb_digits k (msb_num (take n b))) (sym size) ∙ msb_digits-num (take n b) few in
    let low : msb_num (take n b) < 2 ^ n = rw size at (msb_num-lt (take n b) few) in
    (rw (← got-value e, ← got-rest e) (sym (take-append-drop n b) ∙ ap (◌++ drop n b) (sym front)), rw (got-value e) at low)
    )

-- what is left of bits is bits
pub below_rest : {b : List ℕ} (p r : List ℕ) → b ≡ p ++ r → Below 2 b → Below 2 r
below_rest p r e bin = rw (drop-append_seam p r) at (below-drop (length p) (p ++ r) (rw e at bin))

-- ---- sums
pub sum-append : (xs ys : List ℕ) → sum (xs ++ ys) ≡ sum xs + sum ys
unfolding sum
sum-append [] ys = sym (zero-add (sum ys))
sum-append (x ∷ xs) ys = omega (arith, sum-append xs ys)

pub sum_zeros : (n : ℕ) → sum (replicate n 0) ≡ 0
unfolding sum
sum_zeros zero = refl
sum_zeros (suc n) = omega (arith, sum_zeros n)

pub sum-zero : (xs : List ℕ) → sum xs ≡ 0 → xs ≡ replicate (length xs) 0
unfolding sum
sum-zero [] e = refl
sum-zero (zero ∷ xs) e = ap (0 ∷◌) (sum-zero xs (omega arith))
sum-zero (suc x ∷ xs) e = absurd (omega arith)

-- no pixel is above the sum
pub below-sum : (k : ℕ) (xs : List ℕ) → sum xs < k → Below k xs
unfolding sum
below-sum k [] h = below-nil h
below-sum k (x ∷ xs) h = below-cons (omega arith) (below-sum k xs (omega arith))

-- ---- photons
pub length-photon : (p : ℕ) (xs : List ℕ) → length (photon p xs) ≡ length xs
unfolding photon
length-photon p [] = refl
length-photon zero (x ∷ xs) = refl
length-photon (suc p) (x ∷ xs) = ap suc (length-photon p xs)

pub sum-photon : (p : ℕ) (xs : List ℕ) → p < length xs → sum (photon p xs) ≡ suc (sum xs)
unfolding photon sum
sum-photon p [] h = absurd (omega arith)
sum-photon zero (x ∷ xs) h = omega arith
sum-photon (suc p) (x ∷ xs) h = omega (arith, sum-photon p xs (omega arith))

pub photon-comm : (p q : ℕ) (xs : List ℕ) → photon p (photon q xs) ≡ photon q (photon p xs)
unfolding photon
photon-comm p q [] = refl
photon-comm zero zero (x ∷ xs) = refl
photon-comm zero (suc q) (x ∷ xs) = refl
photon-comm (suc p) zero (x ∷ xs) = refl
photon-comm (suc p) (suc q) (x ∷ xs) = ap (x ∷◌) (photon-comm p q xs)
