-- Pixels and codes: what is written is read, and what is read is what is written. Assumes nothing.
use Rattle.std.specs.Prelude.{ℕ, zero, suc, ◌+◌, ◌-◌, ◌≤◌, ◌<◌, ◌≡◌, refl, List, [], ◌∷◌, ◌++◌, length, ltb}
use Rattle.std.proofs.Common.{arith, sym, ap, ◌∙◌, append_assoc, ltb-true, ltb-false, lt-ltb}
use Rattle.bitstream.specs.Bits.{Below}
use Rattle.bitstream.specs.Bits.Laws.{below-nil, below-cons, below-head, below-tail}
use Rattle.bitstream.specs.Msb.{msb_digits, msb_num}
use Rattle.row_format.specs.Lists.Laws.{by-test}
use Rattle.map_format.specs.Reading.{got, ◌then◌, read_field, wide_value, four_bits, two_bits, read_pixel, read_pixels, Code, zeros, one}
use Rattle.map_format.specs.Reading.{two, direct, read_code}
use Rattle.map_format.specs.Reading.Laws.{stops-got, got-value, got-rest, got_same, then-got, read_field-digits, read_field-bit}
use Rattle.map_format.specs.Reading.Laws.{read_field-got, below_rest}
use Rattle.map_format.specs.Writing.{pixel_bits, pixels_bits}
use Rattle.map_format.specs.Writing.Laws.{pixel_bits-two, pixel_bits-four, pixel_bits-sixteen}
use Rattle.map_format.specs.Choice.{code_bits}

-- ---- a pixel
pub read_pixel-own : (x : ℕ) (r : List ℕ) → x < 65536 → read_pixel (pixel_bits x ++ r) ≡ got x r
unfolding read_pixel
read_pixel-own x r h =
    by-test (ltb x 3)
    (λ small. rw (pixel_bits-two x (ltb-true x 3 small), read_field-digits 2 x r (let y = ltb-true x 3 small in omega arith), small))
    (λ more. by-test (ltb x 18) (λ few. four (ltb-false x 3 more) (ltb-true x 18 few)) (λ many. sixteen (ltb-false x 18 many)))
  where
    four : 3 ≤ x → x < 18 → (read_field 2 (pixel_bits x ++ r) then two_bits) ≡ got x r
    four low high =
        let value : 3 + (x - 3) ≡ x = omega arith in
        rw (
          pixel_bits-four x low high,
          append_assoc (msb_digits 2 3) (msb_digits 4 (x - 3)) r,
          read_field-digits 2 3 (msb_digits 4 (x - 3) ++ r) (omega arith),
          read_field-digits 4 (x - 3) r (omega arith),
          lt-ltb (x - 3) 15 (omega arith),
          value,
        )

    sixteen : 18 ≤ x → (read_field 2 (pixel_bits x ++ r) then two_bits) ≡ got x r
    sixteen low = rw (
      pixel_bits-sixteen x low,
      append_assoc (msb_digits 2 3) (msb_digits 4 15 ++ msb_digits 16 x) r,
      read_field-digits 2 3 (msb_digits 4 15 ++ msb_digits 16 x ++ r) (omega arith),
      append_assoc (msb_digits 4 15) (msb_digits 16 x) r,
      read_field-digits 4 15 (msb_digits 16 x ++ r) (omega arith),
      read_field-digits 16 x r h,
      lt-ltb 17 x low,
    )

module _ {x : ℕ} {r : List ℕ} where
  wide-got : (v : ℕ) (s : List ℕ) → v < 65536 → wide_value v s ≡ got x r
      → (msb_digits 2 3 ++ (msb_digits 4 15 ++ (msb_digits 16 v ++ s)) ≡ pixel_bits x ++ r) × (x < 65536)
  wide-got v s low h =
      by-test (ltb 17 v)
      (λ more.
      let e : got v s ≡ got x r = rw more at h in
      let bits : msb_digits 2 3 ++ (msb_digits 4 15 ++ (msb_digits 16 v ++ s)) ≡ pixel_bits v ++ s =
      rw (pixel_bits-sixteen v (ltb-true 17 v more), append_assoc (msb_digits 2 3) (msb_digits 4 15 ++ msb_digits 16 v) s)
      (rw (append_assoc (msb_digits 4 15) (msb_digits 16 v) s)) in
      (bits ∙ rw (got-value e, got-rest e), rw (got-value e) at low)
      )
      (λ less. stops-got (rw less at h))

  four-got : (f : ℕ) (s : List ℕ) → Below 2 s → f < 16 → four_bits f s ≡ got x r
      → (msb_digits 2 3 ++ (msb_digits 4 f ++ s) ≡ pixel_bits x ++ r) × (x < 65536)
  four-got f s bin low h =
      by-test (ltb f 15)
      (λ less.
      let e : got (3 + f) s ≡ got x r = rw less at h in
      let few : f < 15 = ltb-true f 15 less in
      let field : 3 + f - 3 ≡ f = omega arith in
      let bits : msb_digits 2 3 ++ (msb_digits 4 f ++ s) ≡ pixel_bits (3 + f) ++ s =
      rw (pixel_bits-four (3 + f) (omega arith) (omega arith), field) (sym (append_assoc (msb_digits 2 3) (msb_digits 4 f) s)) in
      let value = got-value e in
      (bits ∙ rw (got-value e, got-rest e), omega arith)
      )
      (λ last.
      let most : f ≡ 15 = let y = ltb-false f 15 last in omega arith in
      let (v, t, field, rest) = then-got (read_field 16 s) wide_value (rw last at h) in
      let (bits, fits) = read_field-got 16 s bin field in
      rw (most, bits) (wide-got v t fits rest)
      )

  two-got : (p : ℕ) (s : List ℕ) → Below 2 s → p < 4 → two_bits p s ≡ got x r
      → (msb_digits 2 p ++ s ≡ pixel_bits x ++ r) × (x < 65536)
  two-got p s bin low h =
      by-test (ltb p 3)
      (λ less.
      let e : got p s ≡ got x r = rw less at h in
      let bits : msb_digits 2 p ++ s ≡ pixel_bits p ++ s = rw (pixel_bits-two p (ltb-true p 3 less)) in
      let value = got-value e in
      (bits ∙ rw (got-value e, got-rest e), omega arith)
      )
      (λ last.
      let most : p ≡ 3 = let y = ltb-false p 3 last in omega arith in
      let (f, t, field, rest) = then-got (read_field 4 s) four_bits (rw last at h) in
      let (bits, fits) = read_field-got 4 s bin field in
      rw (most, bits) (four-got f t (below_rest (msb_digits 4 f) t bits bin) fits rest)
      )

  pub read_pixel-got : (b : List ℕ) → Below 2 b → read_pixel b ≡ got x r → (b ≡ pixel_bits x ++ r) × (x < 65536)
  unfolding read_pixel
  read_pixel-got b bin h =
      let (p, s, field, rest) = then-got (read_field 2 b) two_bits h in
      let (bits, fits) = read_field-got 2 b bin field in
      rw bits (two-got p s (below_rest (msb_digits 2 p) s bits bin) fits rest)

-- ---- pixels
pub read_pixels-own : (xs r : List ℕ) → Below 65536 xs → read_pixels (length xs) (pixels_bits xs ++ r) ≡ got xs r
unfolding read_pixels pixels_bits
read_pixels-own [] r low = refl
read_pixels-own (x ∷ xs) r low = rw (
  append_assoc (pixel_bits x) (pixels_bits xs) r,
  read_pixel-own x (pixels_bits xs ++ r) (below-head low),
  read_pixels-own xs r (below-tail low),
)

pub record PixelsRead (n : ℕ) (b xs r : List ℕ) : Type 0 where
  pub bits : b ≡ pixels_bits xs ++ r
  pub size : length xs ≡ n
  pub counts : Below 65536 xs

pub read_pixels-got : (n : ℕ) (b : List ℕ) {xs r : List ℕ} → Below 2 b → read_pixels n b ≡ got xs r → PixelsRead n b xs r
unfolding read_pixels pixels_bits
read_pixels-got zero b bin h =
    got_same (PixelsRead zero b) h (record { bits = refl; size = refl; counts = below-nil (omega arith) })
read_pixels-got (suc n) b bin h =
    let (x, s, first, more) = then-got (read_pixel b) (λ x r. read_pixels n r then λ xs s. got (x ∷ xs) s) h in
    let (ys, t, rest, last) = then-got (read_pixels n s) (λ xs s. got (x ∷ xs) s) more in
    let (bits, low) = read_pixel-got b bin first in
    let others = read_pixels-got n s (below_rest (pixel_bits x) s bits bin) rest in
    got_same (PixelsRead (suc n) b) last (record {
      bits = bits ∙ ap (pixel_bits x ++◌) others.bits ∙ sym (append_assoc (pixel_bits x) (pixels_bits ys) t);
      size = ap suc others.size;
      counts = below-cons low others.counts;
    })

-- ---- codes
pub read_code-own : (c : Code) (r : List ℕ) → read_code (code_bits c ++ r) ≡ got c r
unfolding read_code
read_code-own zeros r = rw (read_field-bit 1 r)
read_code-own one r = rw (read_field-bit 0 (1 ∷ r), read_field-bit 1 r)
read_code-own two r = rw (read_field-bit 0 (0 ∷ 1 ∷ r), read_field-bit 0 (1 ∷ r), read_field-bit 1 r)
read_code-own direct r = rw (read_field-bit 0 (0 ∷ 0 ∷ r), read_field-bit 0 (0 ∷ r), read_field-bit 0 r)

same_code : (d : Code) (s : List ℕ) {c : Code} {r : List ℕ} → read_code (code_bits d ++ s) ≡ got c r
    → code_bits d ++ s ≡ code_bits c ++ r
same_code d s h = let e = sym (read_code-own d s) ∙ h in rw (got-value e, got-rest e)

pub read_code-got : (b : List ℕ) {c : Code} {r : List ℕ} → Below 2 b → read_code b ≡ got c r → b ≡ code_bits c ++ r
unfolding read_code read_field msb_num
read_code-got [] bin h = stops-got h
read_code-got (suc zero ∷ b) bin h = same_code zeros b h
read_code-got (suc (suc x) ∷ b) bin h = let y = below-head bin in absurd (omega arith)
read_code-got (zero ∷ []) bin h = stops-got h
read_code-got (zero ∷ suc zero ∷ b) bin h = same_code one b h
read_code-got (zero ∷ suc (suc x) ∷ b) bin h = let y = below-head (below-tail bin) in absurd (omega arith)
read_code-got (zero ∷ zero ∷ []) bin h = stops-got h
read_code-got (zero ∷ zero ∷ suc zero ∷ b) bin h = same_code two b h
read_code-got (zero ∷ zero ∷ zero ∷ b) bin h = same_code direct b h
read_code-got (zero ∷ zero ∷ suc (suc x) ∷ b) bin h = let y = below-head (below-tail (below-tail bin)) in absurd (omega arith)
