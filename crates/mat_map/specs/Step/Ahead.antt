-- Laws of bits that are looked at once and read as several fields: v is the number of n bits from bit place `at` on, which are there.
-- Assumes nothing.
use Rattle.std.specs.Prelude.{ℕ, ◌+◌, ◌*◌, ◌/◌, ◌%◌, ◌^◌, ◌≤◌, ◌<◌, ◌≡◌, refl, List, ◌++◌, length, take, drop}
use Rattle.std.proofs.Common.{div-one, arith, sym, ap, ◌∙◌, subst, length-drop, take-append-drop, take-add, take-take, length-take-le, drop-drop}
use Rattle.std.proofs.Math.Pow.{high, low}
use Rattle.bitstream.specs.Bits.{Below}
use Rattle.bitstream.specs.Bits.Laws.{below-take, below-drop}
use Rattle.bitstream.specs.Msb.{msb_num, msb_bits_of}
use Rattle.bitstream.specs.Msb.Laws.{msb_num-append, msb_num-lt, length-msb_bits_of, below-msb_bits_of}
use Rattle.map_format.specs.Reading.{read_field, read_pixel}
use Rattle.mat_map.specs.Step.{Stepped, StepReads}
use Rattle.mat_map.specs.Step.Laws.{field-got, farther, pixel-two, pixel-more, four_low, four-more, wide-got, wide-bad}

-- the number of some bits over that of all: the first j, then m, then d
number-of : (b : List ℕ) → Below 2 b → (c : ℕ) → length b ≡ c → msb_num b < 2 ^ c
number-of b bits c e = subst (λ (k : ℕ). msb_num b < 2 ^ k) e (msb_num-lt b bits)

pub msb_num-field : (x : List ℕ) → Below 2 x → (n j m d : ℕ) → n ≤ length x → n ≡ j + m + d
    → msb_num (take n x) / 2 ^ d % 2 ^ m ≡ msb_num (take m (drop j x))
msb_num-field x bits n j m d there e =
    let long : length (take n x) ≡ n = length-take-le n x there in
    let last : length (drop (j + m) (take n x)) ≡ d = length-drop (j + m) (take n x) ∙ (omega (arith, long)) in
    let mid : length (take m (drop j x)) ≡ m = length-take-le m (drop j x) (omega (arith, length-drop j x)) in
    let last-low = number-of (drop (j + m) (take n x)) (below-drop (j + m) _ (below-take n x bits)) d last in
    let mid-low = number-of (take m (drop j x)) (below-take m _ (below-drop j x bits)) m mid in
    let front : take (j + m) (take n x) ≡ take j x ++ take m (drop j x) = take-take (j + m) n x (omega arith) ∙ take-add j m x in
    ap (λ (k : ℕ). k / 2 ^ d % 2 ^ m)
    (ap msb_num (sym (take-append-drop (j + m) (take n x)))
    ∙ msb_num-append (take (j + m) (take n x)) (drop (j + m) (take n x))
    ∙ ap (λ (k : ℕ). msb_num (take (j + m) (take n x)) * 2 ^ k + msb_num (drop (j + m) (take n x))) last)
    ∙ ap (◌% 2 ^ m) (high (msb_num (take (j + m) (take n x))) d last-low)
    ∙ ap (λ (l : List ℕ). msb_num l % 2 ^ m) front
    ∙ ap (◌% 2 ^ m)
    (msb_num-append (take j x) (take m (drop j x)) ∙ ap (λ (k : ℕ). msb_num (take j x) * 2 ^ k + msb_num (take m (drop j x))) mid)
    ∙ low (msb_num (take j x)) m mid-low

module _ (s : List ℕ) (at n v : ℕ) (there : at + n ≤ 8 * length s) (is : v ≡ msb_num (take n (drop at (msb_bits_of s)))) where
  -- m of the bits, after the first j and before the last d, as a field that is read at its own place
  pub ahead : (j m d place next far : ℕ) → n ≡ j + m + d → place ≡ at + j → next ≡ at + j + m → next ≤ far
      → let x : Stepped = record { number = 0; value = v / 2 ^ d % 2 ^ m; next = next } in
      StepReads (msb_bits_of s) far (2 ^ m) (read_field m (drop place (msb_bits_of s))) (v / 2 ^ d % 2 ^ m) x
  ahead j m d place next far e p q few =
      let bits : List ℕ = drop at (msb_bits_of s) in
      let after : next ≡ place + m = omega arith in
      let number : v / 2 ^ d % 2 ^ m ≡ msb_num (take m (drop place (msb_bits_of s))) =
      ap (λ (k : ℕ). k / 2 ^ d % 2 ^ m) is
      ∙ msb_num-field bits (below-drop at _ (below-msb_bits_of s)) n j m d (omega (arith, length-drop at (msb_bits_of s), length-msb_bits_of s)) e
      ∙ ap (λ (l : List ℕ). msb_num (take m l)) (drop-drop j at (msb_bits_of s) ∙ ap (λ (k : ℕ). drop k (msb_bits_of s)) (sym p)) in
      farther (omega arith) (omega arith)
      (subst (λ (w : ℕ). StepReads (msb_bits_of s) (place + m) (2 ^ m) (read_field m (drop place (msb_bits_of s))) (v / 2 ^ d % 2 ^ m)
      (record { number = 0; value = v / 2 ^ d % 2 ^ m; next = w })) (sym after)
      (field-got s place m (v / 2 ^ d % 2 ^ m) (omega arith) number))

-- ---- a pixel
module _ (s : List ℕ) (at v : ℕ) (there : at + 22 ≤ 8 * length s) (is : v ≡ msb_num (take 22 (drop at (msb_bits_of s)))) where
  abbrev two : Stepped
  two = record { number = 0; value = v / 1048576 % 4; next = at + 2 }

  two_is : StepReads (msb_bits_of s) (at + 2) 4 (read_field 2 (drop at (msb_bits_of s))) two.value two
  two_is = ahead s at 22 v there is 0 2 20 at (at + 2) (at + 2) refl (omega arith) (omega arith) (omega arith)

  pub pixel-ahead-two : v / 1048576 % 4 < 3 → StepReads (msb_bits_of s) (at + 22) 65536 (read_pixel (drop at (msb_bits_of s))) two.value two
  pixel-ahead-two l = pixel-two (msb_bits_of s) at two two_is refl l

  module _ (more : 3 ≤ v / 1048576 % 4) where
    abbrev four : Stepped
    four = record { number = 0; value = v / 65536 % 16; next = at + 6 }

    four_is : StepReads (msb_bits_of s) (at + 2 + 4) 16 (read_field 4 (drop (at + 2) (msb_bits_of s))) four.value four
    four_is = ahead s at 22 v there is 2 4 16 (at + 2) (at + 6) (at + 2 + 4) refl (omega arith) (omega arith) (omega arith)

    pub pixel-ahead-four : v / 65536 % 16 < 15 → let y : Stepped = record { number = 0; value = 3 + v / 65536 % 16; next = at + 6 } in
        StepReads (msb_bits_of s) (at + 22) 65536 (read_pixel (drop at (msb_bits_of s))) y.value y
    pixel-ahead-four l =
        pixel-more (msb_bits_of s) at two two_is refl more _ (four_low (msb_bits_of s) (at + 2) four four_is refl l)

    module _ (still : 15 ≤ v / 65536 % 16) where
      abbrev wide : Stepped
      wide = record { number = 0; value = v % 65536; next = at + 22 }

      wide_is : StepReads (msb_bits_of s) (at + 6 + 16) 65536 (read_field 16 (drop (at + 6) (msb_bits_of s))) wide.value wide
      wide_is =
          subst (λ (w : ℕ). StepReads (msb_bits_of s) (at + 6 + 16) 65536 (read_field 16 (drop (at + 6) (msb_bits_of s))) (w % 65536)
          (record { number = 0; value = w % 65536; next = at + 22 })) (div-one v)
          (ahead s at 22 v there is 6 16 0 (at + 6) (at + 22) (at + 6 + 16) refl (omega arith) (omega arith) (omega arith))

      pub pixel-ahead-wide : 17 < v % 65536 → StepReads (msb_bits_of s) (at + 22) 65536 (read_pixel (drop at (msb_bits_of s))) wide.value wide
      pixel-ahead-wide l =
          pixel-more (msb_bits_of s) at two two_is refl more wide
          (four-more (msb_bits_of s) (at + 2) four four_is refl still wide (wide-got (msb_bits_of s) (at + 6) wide wide_is refl l))

      pub pixel-ahead-bad : v % 65536 ≤ 17 → (y : Stepped) → y.number ≡ 20
          → StepReads (msb_bits_of s) (at + 22) 65536 (read_pixel (drop at (msb_bits_of s))) y.value y
      pixel-ahead-bad l y e =
          pixel-more (msb_bits_of s) at two two_is refl more y
          (four-more (msb_bits_of s) (at + 2) four four_is refl still y (wide-bad (msb_bits_of s) (at + 6) wide wide_is refl l y e))
