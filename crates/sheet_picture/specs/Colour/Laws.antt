-- The laws of the indices of heights and counts. Assumes nothing.
use Rattle.std.specs.Prelude.{ℕ, zero, suc, ◌+◌, ◌-◌, ◌*◌, ◌/◌, ◌≤◌, ◌<◌, ◌≡◌, refl, Bool, true, false, cond, List, ◌++◌, length, ltb, eqb}
use Rattle.std.proofs.Common.{add-zero, zero-add, div-lt_iff_lt-mul, add-one, arith, sym, ap, ◌∙◌, append_assoc, append-nil, length-append}
use borrow.Author.Tests.{eq-eqb, ne_eqb, lt-ltb, le-ltb}
use Rattle.sheet_picture.specs.Colour.{Range, greys, below_range, above_range, bad_bias_spot, bad_pixel_spot, missing, first_green}
use Rattle.sheet_picture.specs.Colour.{grey_of, height_index, own_colour, green_colour, colour_of, colours_from}

-- ---- the index of a height, case by case
pub index-bad-pixel : (g : Range) (h : ℕ) → h ≡ 4095 → height_index g h ≡ bad_pixel_spot
unfolding height_index
index-bad-pixel g h e = rw (eq-eqb h 4095 e)

pub index-bad-bias : (g : Range) (h : ℕ) → h ≡ 4094 → height_index g h ≡ bad_bias_spot
unfolding height_index
index-bad-bias g h e = rw e

module _ (g : Range) (h : ℕ) (bad : h ≡ 4095 → ⊥) (bias : h ≡ 4094 → ⊥) where
  pub index_below : h < g.low → height_index g h ≡ below_range
  unfolding height_index
  index_below low = rw (ne_eqb h 4095 bad, ne_eqb h 4094 bias, lt-ltb h g.low low)

  pub index-above : g.low ≤ h → g.high < h → height_index g h ≡ above_range
  unfolding height_index
  index-above low high = rw (ne_eqb h 4095 bad, ne_eqb h 4094 bias, le-ltb h g.low low, lt-ltb g.high h high)

  pub index-grey : g.low ≤ h → h ≤ g.high → height_index g h ≡ grey_of g h
  unfolding height_index
  index-grey low high = rw (ne_eqb h 4095 bad, ne_eqb h 4094 bias, le-ltb h g.low low, le-ltb g.high h high)

-- a number that is no height of a sheet is above every range
pub index-past : (g : Range) (h : ℕ) → g.low ≤ 4095 → g.high ≤ 4093 → 4095 < h → height_index g h ≡ above_range
index-past g h low high past = index-above g h (omega arith) (omega arith) (omega arith) (omega arith)

-- there are 178 greys
pub grey-few : (g : Range) (h : ℕ) → g.low ≤ h → h ≤ g.high → grey_of g h < greys
grey-few g h low high =
    let inside : (h - g.low) * greys < greys * (g.high - g.low + 1) = omega arith in
    (div-lt_iff_lt-mul {k = g.high - g.low + 1} (omega arith)).1 inside

-- ---- the index of a count
-- a count is at most 71 greens above none
pub count-few : (most c : ℕ) → 1 ≤ most → c ≤ most → (c * 71 + (most - 1)) / most < 72
count-few most c some high =
    let inside : c * 71 + (most - 1) < 72 * most = omega arith in
    (div-lt_iff_lt-mul {k = most} (omega arith)).1 inside

-- ---- colours, one after another
-- the last of the six that are neither grey nor green
pub own-last : (i : ℕ) → 178 ≤ i → i < 184 → (i ≡ 178 → ⊥) → (i ≡ 179 → ⊥) → (i ≡ 180 → ⊥) → (i ≡ 181 → ⊥) → (i ≡ 182 → ⊥) → i ≡ 183
own-last i low high below above bias bad lacks = omega arith

three-both : (b : Bool) (x y : List ℕ) → length x ≡ 3 → length y ≡ 3 → length (cond b x y) ≡ 3
three-both true x y p q = p
three-both false x y p q = q

length-own : (i : ℕ) → length (own_colour i) ≡ 3
unfolding own_colour
length-own i =
    three-both (eqb i below_range) _ _ refl
    (three-both (eqb i above_range) _ _ refl
    (three-both (eqb i bad_bias_spot) _ _ refl
    (three-both (eqb i bad_pixel_spot) _ _ refl (three-both (eqb i missing) _ _ refl refl))))

length-green : (t : ℕ) → length (green_colour t) ≡ 3
unfolding green_colour
length-green t = three-both (eqb t 0) _ _ refl refl

pub length-colour_of : (i : ℕ) → length (colour_of i) ≡ 3
unfolding colour_of
length-colour_of i = three-both (ltb i greys) _ _ refl (three-both (ltb i first_green) _ _ (length-own i) (length-green (i - first_green)))

pub length-colours : (n i : ℕ) → length (colours_from n i) ≡ 3 * n
unfolding colours_from
length-colours zero i = refl
length-colours (suc n) i =
    length-append (colour_of i) (colours_from n (i + 1)) ∙ rw (length-colour_of i, length-colours n (i + 1)) (omega arith)

colours-suc : (n i : ℕ) → colours_from (suc n) i ≡ colours_from n i ++ colour_of (i + n)
unfolding colours_from
colours-suc zero i = append-nil (colour_of i) ∙ ap colour_of (sym (add-zero i))
colours-suc (suc n) i =
    let place : i + 1 + n ≡ i + suc n = omega arith in
    ap (colour_of i ++◌) (colours-suc n (i + 1) ∙ ap (λ (k : ℕ). colours_from n (i + 1) ++ colour_of k) place)
    ∙ sym (append_assoc (colour_of i) (colours_from n (i + 1)) (colour_of (i + suc n)))

pub colours-more : (n : ℕ) → colours_from (n + 1) 0 ≡ colours_from n 0 ++ colour_of n
colours-more n = rw (add-one n) (colours-suc n 0 ∙ ap (λ (k : ℕ). colours_from n 0 ++ colour_of k) (zero-add n))
