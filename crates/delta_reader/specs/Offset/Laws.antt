-- Signed numbers in offset binary: differences of two ℕ, of which omega knows. Assumes nothing.
use Rattle.std.specs.Prelude.{ℕ, zero, suc, ◌+◌, ◌-◌, ◌*◌, ◌/◌, ◌%◌, ◌^◌, ◌≤◌, ◌<◌, ◌≡◌, refl, true, false, cond, List, length, take, drop, get_or, ltb, ℤ, pos, negsuc, ◌+ℤ◌, ◌-ℤ◌}
use Rattle.std.proofs.Common.{eqb, eqb-true, mul_assoc, one-mul, zero-add, arith, sym, ◌∙◌, subst, length-drop, length-take-le, lit<, ltb-true, ltb-false, lt-ltb, le-ltb, le-leb}
use Rattle.std.proofs.Math.Nat.{mod-eq_of_lt}
use Rattle.std.proofs.Math.Path.{ap}
use Rattle.std.proofs.lemmas.List.{length-map}
use Rattle.std.proofs.Math.ListN.{get_or-map}
use Rattle.std.proofs.Math.IntN.{sub_ℕ}
use Rattle.std.proofs.lemmas.Bool.{lt-leb}
use Rattle.bitstream.specs.Bits.{cut, num_of, flat, bits_of, number_of}
use Rattle.bitstream.specs.Bits.Laws.{get_d-cut, flat-take, flat-drop, length_cut, length-flat, below-flat, num_of-lt, number_of-suc}
use Rattle.bitstream.specs.Memory.{ByteAt}
use Rattle.row_format.specs.Lists.Laws.{by-test}
use Rattle.delta_format.specs.Numbers.{signed_number, elements_of, bits_for, in32}
use Rattle.delta_format.specs.Row.{count_of}
use Rattle.delta_format.specs.Calls.{width_number}
use Rattle.delta_reader.specs.Offset.{Width, eight, sixteen, thirty_two, Offset, offset_value}

-- ---- a - b
pub sub-below : (a b : ℕ) → a < b → sub_ℕ a b ≡ negsuc (b - suc a)
sub-below a b h = rw (lt-ltb a b h)

pub sub-above : (a b : ℕ) → b ≤ a → sub_ℕ a b ≡ pos (a - b)
sub-above a b h = rw (le-ltb a b h)

-- equal differences
pub sub_same : (a b c d : ℕ) → a + d ≡ c + b → sub_ℕ a b ≡ sub_ℕ c d
sub_same a b c d e = by-test (ltb a b) below above
  where
    below : ltb a b ≡ true → sub_ℕ a b ≡ sub_ℕ c d
    below t =
        let h : a < b = ltb-true a b t in
        let g : c < d = omega arith in
        let n : b - suc a ≡ d - suc c = omega arith in
        sub-below a b h ∙ ap negsuc n ∙ sym (sub-below c d g)

    above : ltb a b ≡ false → sub_ℕ a b ≡ sub_ℕ c d
    above t =
        let h : b ≤ a = ltb-false a b t in
        let g : d ≤ c = omega arith in
        let n : a - b ≡ c - d = omega arith in
        sub-above a b h ∙ ap pos n ∙ sym (sub-above c d g)

pub pos-sub : (a b : ℕ) → pos a -ℤ pos b ≡ sub_ℕ a b
pos-sub a zero = let n : a + 0 ≡ a - 0 = omega arith in ap pos n ∙ sym (sub-above a 0 (omega arith))
pos-sub a (suc b) = refl

pub from-sub : (m a b : ℕ) → pos m -ℤ sub_ℕ a b ≡ sub_ℕ (m + b) a
from-sub m a b = by-test (ltb a b) below above
  where
    below : ltb a b ≡ true → pos m -ℤ sub_ℕ a b ≡ sub_ℕ (m + b) a
    below t =
        let h : a < b = ltb-true a b t in
        let g : a ≤ m + b = omega arith in
        let n : m + suc (b - suc a) ≡ m + b - a = omega arith in
        rw (sub-below a b h, sub-above (m + b) a g, n) refl

    above : ltb a b ≡ false → pos m -ℤ sub_ℕ a b ≡ sub_ℕ (m + b) a
    above t =
        let h : b ≤ a = ltb-false a b t in
        let n : m + a ≡ m + b + (a - b) = omega arith in
        rw (sub-above a b h) (pos-sub m (a - b) ∙ sub_same m (a - b) (m + b) a n)

pub sub-sum : (a b c d : ℕ) → sub_ℕ a b +ℤ sub_ℕ c d ≡ sub_ℕ (a + c) (b + d)
sub-sum a b c d = by-test (ltb a b) below above
  where
    Goal : Type 0
    Goal = sub_ℕ a b +ℤ sub_ℕ c d ≡ sub_ℕ (a + c) (b + d)

    below : ltb a b ≡ true → Goal
    below s = by-test (ltb c d)
        (λ t. let h : a < b = ltb-true a b s in let g : c < d = ltb-true c d t in
        let k : a + c < b + d = omega arith in
        let n : suc (b - suc a + (d - suc c)) ≡ b + d - suc (a + c) = omega arith in
        rw (sub-below a b h, sub-below c d g, sub-below (a + c) (b + d) k, n) refl)
        (λ t. let h : a < b = ltb-true a b s in let g : d ≤ c = ltb-false c d t in
        let n : c - d + (b + d) ≡ a + c + suc (b - suc a) = omega arith in
        rw (sub-below a b h, sub-above c d g) (sub_same (c - d) (suc (b - suc a)) (a + c) (b + d) n))

    above : ltb a b ≡ false → Goal
    above s = by-test (ltb c d)
        (λ t. let h : b ≤ a = ltb-false a b s in let g : c < d = ltb-true c d t in
        let n : a - b + (b + d) ≡ a + c + suc (d - suc c) = omega arith in
        rw (sub-above a b h, sub-below c d g) (sub_same (a - b) (suc (d - suc c)) (a + c) (b + d) n))
        (λ t. let h : b ≤ a = ltb-false a b s in let g : d ≤ c = ltb-false c d t in
        let k : b + d ≤ a + c = omega arith in
        let n : a - b + (c - d) ≡ a + c - (b + d) = omega arith in
        rw (sub-above a b h, sub-above c d g, sub-above (a + c) (b + d) k, n) refl)

-- ---- an element of an array, read from its k bytes
module _ (k : ℕ) (s : List ℕ) where
  -- the number of the bytes
  number-of : (i : ℕ) → i < 8 * length s / (8 * k)
      → get_or (cut (8 * k) (8 * length s / (8 * k)) (bits_of s)) i 0 ≡ number_of (take k (drop (k * i) s))
  number-of i h =
      get_d-cut (8 * k) (8 * length s / (8 * k)) (bits_of s) i h
      ∙ ap (λ (n : ℕ). num_of (take (8 * k) (drop n (bits_of s)))) (mul_assoc 8 k i)
      ∙ ap (λ (b : List ℕ). num_of (take (8 * k) b)) (sym (flat-drop 8 (k * i) s))
      ∙ ap num_of (sym (flat-take 8 k (drop (k * i) s)))

  -- it has 8 * k bits
  pub number_lt : (at : ℕ) → at + k ≤ length s → number_of (take k (drop at s)) < 2 ^ (8 * k)
  number_lt at h =
      let n : length (take k (drop at s)) ≡ k = length-take-le k (drop at s) (omega (arith, length-drop at s)) in
      let m : length (bits_of (take k (drop at s))) ≡ 8 * k = length-flat 8 (take k (drop at s)) ∙ ap (λ (j : ℕ). 8 * j) n in
      subst (λ (j : ℕ). number_of (take k (drop at s)) < 2 ^ j) m (num_of-lt (bits_of (take k (drop at s)))
      (below-flat 8 (take k (drop at s))))

read_one : {s : List ℕ} {at b : ℕ} → ByteAt s at b → number_of (take 1 (drop at s)) ≡ b
read_one {s} {at} {b} h =
    number_of-suc 0 at s
    ∙ unfold flat num_of in (zero-add (get_or s at 0 % 256) ∙ ap (◌% 256) (sym h.value) ∙ mod-eq_of_lt h.small)

-- two's complement, of bits u in t numbers, and offset binary
signed-kept : (h t u r : ℕ) → (u < h → r ≡ u + 2147483648) → (h ≤ u → r + t ≡ u + 2147483648)
    → cond (ltb u h) (pos u) (pos u -ℤ pos t) ≡ offset_value r
signed-kept h t u r low high = by-test (ltb u h) below above
  where
    below : ltb u h ≡ true → cond (ltb u h) (pos u) (pos u -ℤ pos t) ≡ offset_value r
    below e =
        let q : r ≡ u + 2147483648 = low (ltb-true u h e) in
        let n : u ≡ r - 2147483648 = omega arith in
        rw e (ap pos n ∙ sym (sub-above r 2147483648 (omega arith)))

    above : ltb u h ≡ false → cond (ltb u h) (pos u) (pos u -ℤ pos t) ≡ offset_value r
    above e =
        let q : r + t ≡ u + 2147483648 = high (ltb-false u h e) in
        rw e (pos-sub u t ∙ sub_same u t r 2147483648 (sym q))

element-of : (w : ℕ) (s : List ℕ) (i : ℕ) → signed_number w 0 ≡ pos 0
    → get_or (elements_of w s) i (pos 0) ≡ signed_number w (get_or (cut w (8 * length s / w) (bits_of s)) i 0)
element-of w s i z =
    ap (get_or (elements_of w s) i) (sym z) ∙ get_or-map (signed_number w) (cut w (8 * length s / w) (bits_of s)) i 0

pub length-elements : (w : ℕ) (s : List ℕ) → length (elements_of w s) ≡ 8 * length s / w
length-elements w s =
    length-map (cut w (8 * length s / w) (bits_of s)) (signed_number w) ∙ length_cut w (8 * length s / w) (bits_of s)

-- at each width
pub elements-count : {w : ℕ} (s : List ℕ) → Width w → length s / (w / 8) ≡ length (elements_of w s)
elements-count s eight = let n : length s / 1 ≡ 8 * length s / 8 = omega arith in n ∙ sym (length-elements 8 s)
elements-count s sixteen = let n : length s / 2 ≡ 8 * length s / 16 = omega arith in n ∙ sym (length-elements 16 s)
elements-count s thirty_two = let n : length s / 4 ≡ 8 * length s / 32 = omega arith in n ∙ sym (length-elements 32 s)

pub bytes-some : {w : ℕ} → Width w → 0 < w / 8
bytes-some eight = lit< tt
bytes-some sixteen = lit< tt
bytes-some thirty_two = lit< tt

-- no more than its bytes
pub elements-few : {w : ℕ} (s : List ℕ) → Width w → length (elements_of w s) ≤ length s
elements-few s eight = omega (arith, length-elements 8 s)
elements-few s sixteen = omega (arith, length-elements 16 s)
elements-few s thirty_two = omega (arith, length-elements 32 s)

-- a width that is neither of two is the third
pub third-width : {w : ℕ} → Width w → (w ≡ 8 → ⊥) → (w ≡ 16 → ⊥) → w ≡ 32
third-width eight n m = absurd (n refl)
third-width sixteen n m = absurd (m refl)
third-width thirty_two n m = refl

pub at_width : {w v : ℕ} (s : List ℕ) (i : ℕ) → w ≡ v → i < length (elements_of w s) → i < length (elements_of v s)
at_width {w} {v} s i e h = subst (λ (n : ℕ). i < length (elements_of n s)) e h

pub of_width : {w v r : ℕ} (s : List ℕ) (i : ℕ) → w ≡ v → Offset v (get_or (elements_of v s) i (pos 0)) r
    → Offset w (get_or (elements_of w s) i (pos 0)) r
of_width {w} {v} {r} s i e h = subst (λ (n : ℕ). Offset n (get_or (elements_of n s) i (pos 0)) r) (sym e) h

pub inside-8 : (s : List ℕ) (i : ℕ) → i < length (elements_of 8 s) → i < length s
inside-8 s i h = omega (arith, length-elements 8 s)

pub inside-16 : (s : List ℕ) (i : ℕ) → i < length (elements_of 16 s) → 2 * i + 2 ≤ length s
inside-16 s i h = omega (arith, length-elements 16 s)

pub inside-32 : (s : List ℕ) (i : ℕ) → i < length (elements_of 32 s) → 4 * i + 4 ≤ length s
inside-32 s i h = omega (arith, length-elements 32 s)

pub kept-8 : (s : List ℕ) (i b : ℕ) → i < length (elements_of 8 s) → ByteAt s i b
    → Offset 8 (get_or (elements_of 8 s) i (pos 0)) ((b + 128) % 256 + 2147483520)
kept-8 s i b h at =
    let small : b < 256 = at.small in
    let here : i < 8 * length s / 8 = omega (arith, length-elements 8 s) in
    let one : number_of (take 1 (drop (1 * i) s)) ≡ b = ap (λ (n : ℕ). number_of (take 1 (drop n s))) (one-mul i) ∙ read_one at in
    record {
      keeps = element-of 8 s i refl ∙ ap (signed_number 8) (number-of 1 s i here ∙ one)
          ∙ signed-kept 128 256 b ((b + 128) % 256 + 2147483520) (λ g. omega arith) (λ g. omega arith);
      low = omega arith;
      high = omega arith;
    }

pub kept-16 : (s : List ℕ) (i u : ℕ) → i < length (elements_of 16 s) → u ≡ number_of (take 2 (drop (2 * i) s))
    → Offset 16 (get_or (elements_of 16 s) i (pos 0)) ((u + 32768) % 65536 + 2147450880)
kept-16 s i u h e =
    let small : u < 65536 = rw e (number_lt 2 s (2 * i) (inside-16 s i h)) in
    let here : i < 8 * length s / 16 = omega (arith, length-elements 16 s) in
    record {
      keeps = element-of 16 s i refl ∙ ap (signed_number 16) (number-of 2 s i here ∙ sym e)
          ∙ signed-kept 32768 65536 u ((u + 32768) % 65536 + 2147450880) (λ g. omega arith) (λ g. omega arith);
      low = omega arith;
      high = omega arith;
    }

pub kept-32 : (s : List ℕ) (i u : ℕ) → i < length (elements_of 32 s) → u ≡ number_of (take 4 (drop (4 * i) s))
    → Offset 32 (get_or (elements_of 32 s) i (pos 0)) ((u + 2147483648) % 4294967296)
kept-32 s i u h e =
    let small : u < 4294967296 = rw e (number_lt 4 s (4 * i) (inside-32 s i h)) in
    let here : i < 8 * length s / 32 = omega (arith, length-elements 32 s) in
    record {
      keeps = element-of 32 s i refl ∙ ap (signed_number 32) (number-of 4 s i here ∙ sym e)
          ∙ signed-kept 2147483648 4294967296 u ((u + 2147483648) % 4294967296) (λ g. omega arith) (λ g. omega arith);
      low = omega arith;
      high = omega arith;
    }

-- ---- what is done with a number that is kept as r
-- how far it is below MAX
pub down_is : (h r : ℕ) → 0 < h → r < 2147483648 + h → pos (h - 1) -ℤ offset_value r ≡ pos (2147483647 + h - r)
down_is h r some most =
    let e : h - 1 + 2147483648 - r ≡ 2147483647 + h - r = omega arith in
    from-sub (h - 1) r 2147483648 ∙ sub-above (h - 1 + 2147483648) r (omega arith) ∙ ap pos e

-- its sum with another
pub sum_is : (p r : ℕ) → 2147483648 ≤ p + r → offset_value p +ℤ offset_value r ≡ offset_value (p + r - 2147483648)
sum_is p r h = sub-sum p 2147483648 r 2147483648 ∙ sub_same (p + r) 4294967296 (p + r - 2147483648) 2147483648 (omega arith)

pub in-32 : (n : ℕ) → n < 4294967296 → in32 (offset_value n) ≡ true
in-32 n h = by-test (ltb n 2147483648)
    (λ e. let g : n < 2147483648 = ltb-true n 2147483648 e in
    rw (sub-below n 2147483648 g, le-leb (2147483648 - suc n) 2147483647 (omega arith)) refl)
    (λ e. let g : 2147483648 ≤ n = ltb-false n 2147483648 e in
    rw (sub-above n 2147483648 g, le-leb (n - 2147483648) 2147483647 (omega arith)) refl)

pub below-32 : (p r : ℕ) → p + r < 2147483648 → in32 (offset_value p +ℤ offset_value r) ≡ false
below-32 p r h =
    rw (
      sub-sum p 2147483648 r 2147483648,
      sub-below (p + r) 4294967296 (omega arith),
      lt-leb (4294967296 - suc (p + r)) 2147483647 (omega arith),
    ) refl

pub above-32 : (p r : ℕ) → 6442450944 ≤ p + r → in32 (offset_value p +ℤ offset_value r) ≡ false
above-32 p r h =
    rw (
      sub-sum p 2147483648 r 2147483648,
      sub-above (p + r) 4294967296 (omega arith),
      lt-leb (p + r - 4294967296) 2147483647 (omega arith),
    ) refl

-- its 32 bits
pub bits_are : (n : ℕ) → n < 4294967296 → bits_for 32 (offset_value n) ≡ (n + 2147483648) % 4294967296
bits_are n h = by-test (ltb n 2147483648)
    (λ e. let g : n < 2147483648 = ltb-true n 2147483648 e in
    let q : 4294967296 - suc (2147483648 - suc n) ≡ (n + 2147483648) % 4294967296 = omega arith in
    rw (sub-below n 2147483648 g) q)
    (λ e. let g : 2147483648 ≤ n = ltb-false n 2147483648 e in
    let q : n - 2147483648 ≡ (n + 2147483648) % 4294967296 = omega arith in
    rw (sub-above n 2147483648 g) q)

-- as a count
pub count-is : (n : ℕ) → count_of (offset_value n) ≡ n - 2147483648
count-is n = by-test (ltb n 2147483648)
    (λ e. let g : n < 2147483648 = ltb-true n 2147483648 e in
    let q : 0 ≡ n - 2147483648 = omega arith in
    rw (sub-below n 2147483648 g) q)
    (λ e. rw (sub-above n 2147483648 (ltb-false n 2147483648 e)) refl)

pub low_count : {v : ℤ} (n : ℕ) → v ≡ offset_value n → n < 2147483648 → 0 ≡ count_of v
low_count n e h = let q : 0 ≡ n - 2147483648 = omega arith in q ∙ sym (ap count_of e ∙ count-is n)

-- the width of elements that are read
pub width_of : (w : ℕ) → width_number w ≡ 0 → Width w
unfolding width_number
width_of w z =
    by-test (eqb w 8) (λ e. subst Width (sym (eqb-true w 8 e)) eight)
    (λ a. by-test (eqb w 16) (λ e. subst Width (sym (eqb-true w 16 e)) sixteen)
    (λ b. by-test (eqb w 32) (λ e. subst Width (sym (eqb-true w 32 e)) thirty_two)
    (λ c. let q : ◌≡◌ {A = ℕ} 14 0 = sym (rw (a, b, c) refl) ∙ z in absurd (omega arith))))
