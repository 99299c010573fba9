-- What the index of a height, and of a count, tells. Assumes nothing.
use Rattle.std.specs.Prelude.{ℕ, ◌+◌, ◌-◌, ◌*◌, ◌/◌, ◌≤◌, ◌<◌, ◌≡◌, ◌↔◌}
use Rattle.std.proofs.Common.{div-mul-le_self, le-div_iff_mul-le, arith, sym, ap, ◌∙◌}
use Rattle.std.proofs.Math.Nat.{lt-div-mul-add, div-eq_of_lt}
use Rattle.std.proofs.Math.Decide.{dec_lt}
use Rattle.sheet_picture.specs.Colour.{Range, greys, below_range, above_range, bad_bias_spot, bad_pixel_spot, missing, first_green}
use Rattle.sheet_picture.specs.Colour.{grey_of, height_index, count_index}
use Rattle.sheet_picture.specs.Colour.Laws.{index-bad-pixel, index-bad-bias, index_below, index-above, index-grey}
use Rattle.sheet_picture.specs.Colour.Laws.{grey-few, count-few}

-- a quotient rises with what is divided
div-rises : (a b d : ℕ) → 0 < d → a ≤ b → a / d ≤ b / d
div-rises a b d some h = (le-div_iff_mul-le {k = d} some).1 (omega (arith, div-mul-le_self a d))

-- ---- heights
-- what holds of the index in each case holds of the index
module _ (g : Range) (ordered : g.low ≤ g.high) (heights : g.high ≤ 4093) where
  cases : (P : ℕ → Type 0) (h : ℕ) → h ≤ 4095 → (h ≡ 4095 → P bad_pixel_spot) → (h ≡ 4094 → P bad_bias_spot) → (h < g.low → P below_range)
      → (g.high < h → h < 4094 → P above_range) → (g.low ≤ h → h ≤ g.high → P (grey_of g h)) → P (height_index g h)
  cases P h most bad bias below above grey = by-bad (dec_lt h 4095) (dec_lt h 4094) (dec_lt h g.low) (dec_lt g.high h)
    where
      by-bad : Dec (h < 4095) → Dec (h < 4094) → Dec (h < g.low) → Dec (g.high < h) → P (height_index g h)
      by-bad (no a) b c d = let is : h ≡ 4095 = omega arith in rw (index-bad-pixel g h is) (bad is)
      by-bad (yes a) (no b) c d = let is : h ≡ 4094 = omega arith in rw (index-bad-bias g h is) (bias is)
      by-bad (yes a) (yes b) (yes c) d = rw (index_below g h (λ e. omega arith) (λ e. omega arith) c) (below c)
      by-bad (yes a) (yes b) (no c) (yes d) =
          rw (index-above g h (λ e. omega arith) (λ e. omega arith) (omega arith) d) (above d b)
      by-bad (yes a) (yes b) (no c) (no d) =
          rw (index-grey g h (λ e. omega arith) (λ e. omega arith) (omega arith) (omega arith)) (grey (omega arith) (omega arith))

  pub grey-of-range : (h : ℕ) → g.low ≤ h → h ≤ g.high → height_index g h ≡ grey_of g h
  grey-of-range h low high = index-grey g h (λ e. omega arith) (λ e. omega arith) low high

  pub grey-iff : (h : ℕ) → h ≤ 4095 → (height_index g h < greys) ↔ ((g.low ≤ h) × (h ≤ g.high))
  grey-iff h most = (
    cases (λ (i : ℕ). i < greys → (g.low ≤ h) × (h ≤ g.high)) h most (λ e i. absurd (omega arith)) (λ e i. absurd (omega arith))
        (λ below i. absurd (omega arith)) (λ above b i. absurd (omega arith)) (λ low high i. (low, high)),
    λ inside. rw (grey-of-range h inside.0 inside.1) (grey-few g h inside.0 inside.1),
  )

  -- heights of one grey are less than the range over 178 apart
  module _ (h k : ℕ) (low : g.low ≤ h) (order : h ≤ k) (high : k ≤ g.high) where
    pub grey-rises : height_index g h ≤ height_index g k
    grey-rises =
        let step = div-rises ((h - g.low) * greys) ((k - g.low) * greys) (g.high - g.low + 1) (omega arith) (omega arith) in
        rw (grey-of-range h low (omega arith), grey-of-range k (omega arith) high) step

    pub grey-narrow : height_index g h ≡ height_index g k → (k - h) * greys < g.high - g.low + 1
    grey-narrow same =
        let d : ℕ = g.high - g.low + 1 in
        let a : ℕ = (h - g.low) * greys in
        let b : ℕ = (k - g.low) * greys in
        let one : a / d ≡ b / d = sym (grey-of-range h low (omega arith)) ∙ same ∙ grey-of-range k (omega arith) high in
        let from : a / d * d ≤ a = div-mul-le_self a d in
        let to : b < b / d * d + d = lt-div-mul-add {a = b} {b = d} (omega arith) in
        let times : a / d * d ≡ b / d * d = ap (◌* d) one in
        omega (arith, from, to, times)

    pub grey-apart : g.high - g.low < greys → height_index g h ≡ height_index g k → h ≡ k
    grey-apart few same = omega (arith, grey-narrow same)

  -- an index of a height or of a bad spot is below the index of what is missing
  pub height-few : (h : ℕ) → h ≤ 4095 → height_index g h < missing
  height-few h most =
      cases (λ (i : ℕ). i < missing) h most (λ e. omega arith) (λ e. omega arith) (λ below. omega arith) (λ above b. omega arith)
      (λ low high. omega (arith, grey-few g h low high))

  -- and of a height below those of the bad spots
  pub height-below : (h : ℕ) → h ≤ 4093 → height_index g h < bad_bias_spot
  height-below h most =
      cases (λ (i : ℕ). i < bad_bias_spot) h (omega arith) (λ e. absurd (omega arith)) (λ e. absurd (omega arith)) (λ below. omega arith)
      (λ above b. omega arith) (λ low high. omega (arith, grey-few g h low high))

  -- a bad spot's index is no other number's
  pub bad-apart : (h k : ℕ) → 4094 ≤ h → h ≤ 4095 → k ≤ 4095 → height_index g h ≡ height_index g k → h ≡ k
  bad-apart h k bad most few same = by (dec_lt h 4095) (dec_lt k 4095) (dec_lt k 4094)
    where
      by : Dec (h < 4095) → Dec (k < 4095) → Dec (k < 4094) → h ≡ k
      by (no a) (no b) c = omega arith
      by (no a) (yes b) (no c) = absurd (omega (arith, index-bad-pixel g h (omega arith), index-bad-bias g k (omega arith)))
      by (no a) (yes b) (yes c) = absurd (omega (arith, index-bad-pixel g h (omega arith), height-below k (omega arith)))
      by (yes a) (no b) c = absurd (omega (arith, index-bad-bias g h (omega arith), index-bad-pixel g k (omega arith)))
      by (yes a) (yes b) (no c) = omega arith
      by (yes a) (yes b) (yes c) = absurd (omega (arith, index-bad-bias g h (omega arith), height-below k (omega arith)))

-- ---- all heights in grey
pub grey-whole : (h : ℕ) → h ≤ 4093 → height_index record { low = 0; high = 4093 } h ≡ h / 23
grey-whole h most =
    grey-of-range record { low = 0; high = 4093 } (omega arith) (omega arith) h (omega arith) most ∙ omega arith

-- ---- counts
module _ (most : ℕ) (some : 1 ≤ most) where
  pub count_none : count_index most 0 ≡ first_green
  unfolding count_index
  count_none = let none : (0 * 71 + (most - 1)) / most ≡ 0 = div-eq_of_lt (omega arith) in omega (arith, none)

  pub count-one : (c : ℕ) → 1 ≤ c → first_green < count_index most c
  unfolding count_index
  count-one c one =
      let up : 1 ≤ (c * 71 + (most - 1)) / most = (le-div_iff_mul-le {k = most} some).1 (omega arith) in
      omega (arith, up)

  pub count-rises : (c d : ℕ) → c ≤ d → count_index most c ≤ count_index most d
  unfolding count_index
  count-rises c d order = omega (arith, div-rises (c * 71 + (most - 1)) (d * 71 + (most - 1)) most some (omega arith))

  pub count-largest : count_index most most ≡ 255
  unfolding count_index
  count-largest =
      let up : 71 ≤ (most * 71 + (most - 1)) / most = (le-div_iff_mul-le {k = most} some).1 (omega arith) in
      omega (arith, up, count-few most most some (omega arith))
