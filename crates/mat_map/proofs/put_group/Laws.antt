-- The photons of a group one after the other, and the fields that hold its code and their positions. Assumes nothing.
use Prim.Native.Nat.{ℕ, zero, suc, ◌+◌, ◌-◌, ◌*◌, ◌^◌, ◌≤◌, ◌<◌}
use native.Mathlib.Nat.{zero-add}
use native.Mathlib.Numerals.{add-one}
use native.Mathlib.Omega.{arith}
use mathlib.Core.Path.{◌≡◌, refl, sym, ap, ◌∙◌}
use mathlib.Core.List.{List, [], ◌∷◌, ◌++◌, append_assoc}
use lib.ListN.{length, drop, get_or, replicate, length-replicate, get_or-replicate, get_or-append}
use lib.Seq.{get_or-append-add}
use lib.Arith.{digits_lt}
use lib.Pow.{pow_pos, pow_mono, pow-add}
use Rattle.bitstream.specs.Msb.{msb_digits}
use Rattle.bitstream.specs.Msb.Laws.{msb_digits-join}
use Rattle.map_format.specs.Reading.{sum}
use Rattle.map_format.specs.Writing.{pixels_bits, positions, group_bits}
use Rattle.map_format.specs.Writing.Laws.{length-positions, group_bits-zeros, group_bits-at, group_bits-both, group_bits-direct}
use Rattle.row_pixels.specs.Laws.{drop_more}

-- ---- photon m is looked for: x photons are in pixel i, and before photon m are `left` from there on
pub record Seeking (xs : List ℕ) (m i left x : ℕ) : Type 0 where
  pub pixel : x ≡ get_or xs i 0
  pub within : i < length xs
  pub some : left < sum (drop i xs)
  pub place : get_or (positions i (drop i xs)) left 0 ≡ get_or (positions 0 xs) m 0

-- where photons are left, pixels are
left-some : (xs : List ℕ) (i : ℕ) {n : ℕ} → n < sum (drop i xs) → i < length xs
unfolding sum
left-some [] zero h = absurd (omega arith)
left-some [] (suc i) h = absurd (omega arith)
left-some (x ∷ xs) zero h = omega arith
left-some (x ∷ xs) (suc i) h = omega (arith, left-some xs i h)

module _ (xs : List ℕ) {m : ℕ} (h : m < sum xs) where
  pub seeking-within : 0 < length xs
  seeking-within = left-some xs 0 h

  pub seeking-none : {x : ℕ} → x ≡ get_or xs 0 0 → Seeking xs m 0 m x
  seeking-none e = record { pixel = e; within = seeking-within; some = h; place = refl }

module _ {xs : List ℕ} {m i left x : ℕ} (s : Seeking xs m i left x) where
  abbrev rest : List ℕ
  rest = drop (i + 1) xs

  split : drop i xs ≡ x ∷ rest
  split = drop_more xs i s.within s.pixel

  all : sum (drop i xs) ≡ x + sum rest
  unfolding sum
  all = ap sum split

  here : positions i (drop i xs) ≡ replicate x i ++ positions (i + 1) rest
  unfolding positions
  here = ap (positions i) split ∙ ap (λ (j : ℕ). replicate x i ++ positions j rest) (sym (add-one i))

  module _ (h : x ≤ left) where
    less : left - x < sum rest
    less = omega (arith, s.some, all)

    pub seeking-next : i + 1 < length xs
    seeking-next = left-some xs (i + 1) less

    past : get_or (positions i (drop i xs)) left 0 ≡ get_or (positions (i + 1) rest) (left - x) 0
    past =
        let e : left ≡ length (replicate x i) + (left - x) = omega (arith, length-replicate x i) in
        ap (λ (l : List ℕ). get_or l left 0) here
        ∙ ap (λ (n : ℕ). get_or (replicate x i ++ positions (i + 1) rest) n 0) e
        ∙ get_or-append-add (replicate x i) (positions (i + 1) rest) (left - x) 0

    pub seeking-more : {y : ℕ} → y ≡ get_or xs (i + 1) 0 → Seeking xs m (i + 1) (left - x) y
    seeking-more e = record { pixel = e; within = seeking-next; some = less; place = sym past ∙ s.place }

  pub seeking-found : left < x → i ≡ get_or (positions 0 xs) m 0
  seeking-found h =
      sym
      (ap (λ (l : List ℕ). get_or l left 0) here
      ∙ get_or-append (replicate x i) (positions (i + 1) rest) 0 left (omega (arith, length-replicate x i))
      ∙ get_or-replicate x left i 0 h)
      ∙ s.place

-- ---- the code and the positions as one number
module _ (k : ℕ) where
  more-low : (m : ℕ) {v p : ℕ} → v < 2 ^ m → p < 2 ^ k → v * 2 ^ k + p < 2 ^ (m + k)
  more-low m h g = rw (pow-add 2 m k) (digits_lt h g)

  -- a number below 32, in front of a position
  pub small : (v : ℕ) → k ≤ 4 → v < 32 → v * 2 ^ k < 512
  small v few h = omega (arith, pow_mono {i = k} {j = 4} few, more-low 5 h (pow_pos k), pow-add 2 5 k)

  pub one-low : {p : ℕ} → p < 2 ^ k → 1 * 2 ^ k + p < 2 ^ (2 + k)
  one-low h = more-low 2 (omega arith) h

  -- the lower position p, the higher q
  pub two-number : (p q : ℕ) {u v : ℕ} → u ≡ 1 * 2 ^ k + p → v ≡ u * 2 ^ k + q → v ≡ (1 * 2 ^ k + p) * 2 ^ k + q
  two-number p q first both = both ∙ ap (λ (n : ℕ). n * 2 ^ k + q) first

  pub two-low : {p q : ℕ} → p < 2 ^ k → q < 2 ^ k → (1 * 2 ^ k + p) * 2 ^ k + q < 2 ^ (3 + 2 * k)
  two-low h g =
      let size : 3 + 2 * k ≡ 3 + k + k = omega arith in
      rw size (more-low (3 + k) (more-low 3 (omega arith) h) g)

-- ---- more photons than those
pub three : {n m : ℕ} → n ≡ m → (n ≡ 0 → ⊥) → (n ≡ 1 → ⊥) → (n ≡ 2 → ⊥) → 3 ≤ m
three e none one two = omega arith

-- ---- a group by its photons, its code a field
only : (p : ℕ) (l : List ℕ) → length l ≡ 1 → p ≡ get_or l 0 0 → l ≡ (0 + p) ∷ []
only p [] e at = absurd (omega arith)
only p (x ∷ []) e at = rw (zero-add p) (ap (◌∷ []) (sym at))
only p (x ∷ y ∷ l) e at = absurd (omega arith)

both : (p q : ℕ) (l : List ℕ) → length l ≡ 2 → p ≡ get_or l 0 0 → q ≡ get_or l 1 0 → l ≡ (0 + p) ∷ (0 + q) ∷ []
both p q [] e first second = absurd (omega arith)
both p q (x ∷ []) e first second = absurd (omega arith)
both p q (x ∷ y ∷ []) e first second = rw (zero-add p, zero-add q, first, second)
both p q (x ∷ y ∷ z ∷ l) e first second = absurd (omega arith)

module _ (k : ℕ) (xs : List ℕ) where
  pub group_bits-none : 0 ≡ sum xs → group_bits k xs ≡ msb_digits 1 1
  unfolding msb_digits
  group_bits-none e = group_bits-zeros k xs (sym e)

  -- one photon, two: the code and the positions are one field
  pub group_bits-field : (p : ℕ) → 1 ≡ sum xs → p ≡ get_or (positions 0 xs) 0 0 → p < 2 ^ k
      → group_bits k xs ≡ msb_digits (2 + k) (1 * 2 ^ k + p)
  unfolding msb_digits
  group_bits-field p e at low =
      group_bits-at k xs p (sym e) (only p (positions 0 xs) (length-positions 0 xs ∙ sym e) at) ∙ msb_digits-join 2 k 1 p low

  pub group_bits-fields : (p q : ℕ) → 2 ≡ sum xs → p ≡ get_or (positions 0 xs) 0 0 → q ≡ get_or (positions 0 xs) 1 0 → p < 2 ^ k → q < 2 ^ k
      → group_bits k xs ≡ msb_digits (3 + 2 * k) ((1 * 2 ^ k + p) * 2 ^ k + q)
  unfolding msb_digits
  group_bits-fields p q e first second low low' =
      let size : 3 + k + k ≡ 3 + 2 * k = omega arith in
      group_bits-both k xs p q (sym e) (both p q (positions 0 xs) (length-positions 0 xs ∙ sym e) first second)
      ∙ sym (append_assoc (msb_digits 3 1) (msb_digits k p) (msb_digits k q))
      ∙ ap (◌++ msb_digits k q) (msb_digits-join 3 k 1 p low)
      ∙ msb_digits-join (3 + k) k (1 * 2 ^ k + p) q low'
      ∙ ap (λ (n : ℕ). msb_digits n ((1 * 2 ^ k + p) * 2 ^ k + q)) size

  pub group_bits-many : 3 ≤ sum xs → group_bits k xs ≡ msb_digits 3 0 ++ pixels_bits xs
  unfolding msb_digits
  group_bits-many h = group_bits-direct k xs h
