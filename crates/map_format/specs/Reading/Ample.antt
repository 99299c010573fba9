-- How many bits a reading uses at most; where so many are there it is not refused 19. This holds of any numbers in place of bits.
-- Assumes nothing.
use Prim.Native.Nat.{ℕ, zero, suc, ◌+◌, ◌*◌, ◌^◌, ◌≤◌, ◌<◌}
use Rattle.std.proofs.Common.{suc-mul, pow-suc, length-drop, ltb-true, ltb-false}
use native.Mathlib.Omega.{arith}
use Rattle.std.specs.Prelude.{◌≡◌, Bool, true, false, cond, List, ◌∷◌, ◌++◌, length, ltb, eqb}
use Rattle.row_format.specs.Lists.Laws.{by-test}
use Rattle.map_format.specs.Reading.{Parse, stops, got, ◌then◌, read_field, wide_value, four_bits, two_bits, read_pixel, read_pixels, Code}
use Rattle.map_format.specs.Reading.{zeros, one, two, direct, read_code, sum, photon, dark, three_or_more, read_body, read_group}
use Rattle.map_format.specs.Reading.{read_groups}

-- n bits are enough for what reading b came to
abbrev pub Ample : {A : Type 0} → ℕ → List ℕ → Parse A → Type 0
Ample n b (got v r) = length b ≤ n + length r
Ample n b (stops e) = e ≡ 19 → length b < n

module _ {A : Type 0} where
  more-enough : (m n : ℕ) (b : List ℕ) (x : Parse A) → m ≤ n → Ample m b x → Ample n b x
  more-enough m n b (got v r) h e = omega arith
  more-enough m n b (stops d) h e = λ z. omega (arith, e z)

  -- after m bits
  after-enough : (m n : ℕ) (b r : List ℕ) (x : Parse A) → length b ≤ m + length r → Ample n r x → Ample (m + n) b x
  after-enough m n b r (got v s) h e = omega arith
  after-enough m n b r (stops d) h e = λ z. omega (arith, e z)

  test-enough : (t : Bool) (n : ℕ) (b : List ℕ) (x y : Parse A) → Ample n b x → Ample n b y → Ample n b (cond t x y)
  test-enough true n b x y h g = h
  test-enough false n b x y h g = g

then-enough : {A B : Type 0} (m n : ℕ) (b : List ℕ) (x : Parse A) (f : A → List ℕ → Parse B) → Ample m b x
    → ((v : A) (r : List ℕ) → Ample n r (f v r)) → Ample (m + n) b (x then f)
then-enough m n b (got v r) f h next = after-enough m n b r (f v r) h (next v r)
then-enough m n b (stops e) f h next = λ z. omega (arith, h z)

read_field-enough : (n : ℕ) (b : List ℕ) → Ample n b (read_field n b)
unfolding read_field
read_field-enough n b =
    by-test (ltb (length b) n) (λ e. rw e (λ z. ltb-true (length b) n e))
    (λ e. rw e (omega (arith, length-drop n b, ltb-false (length b) n e)))

-- ---- pixels: 2 bits, or 2 and 4, or 6 and 16
wide_value-enough : (x : ℕ) (r : List ℕ) → Ample 0 r (wide_value x r)
wide_value-enough x r = test-enough (ltb 17 x) 0 r (got x r) (stops 20) (omega arith) (λ z. absurd (omega arith))

four_bits-enough : (f : ℕ) (r : List ℕ) → Ample 16 r (four_bits f r)
four_bits-enough f r =
    test-enough (ltb f 15) 16 r (got (3 + f) r) (read_field 16 r then wide_value) (omega arith)
    (then-enough 16 0 r (read_field 16 r) wide_value (read_field-enough 16 r) wide_value-enough)

two_bits-enough : (x : ℕ) (r : List ℕ) → Ample 20 r (two_bits x r)
two_bits-enough x r =
    test-enough (ltb x 3) 20 r (got x r) (read_field 4 r then four_bits) (omega arith)
    (then-enough 4 16 r (read_field 4 r) four_bits (read_field-enough 4 r) four_bits-enough)

read_pixel-enough : (b : List ℕ) → Ample 22 b (read_pixel b)
unfolding read_pixel
read_pixel-enough b = then-enough 2 20 b (read_field 2 b) two_bits (read_field-enough 2 b) two_bits-enough

read_pixels-enough : (n : ℕ) (b : List ℕ) → Ample (22 * n) b (read_pixels n b)
unfolding read_pixels
read_pixels-enough zero b = omega arith
read_pixels-enough (suc n) b =
    let bits : 22 + (22 * n + 0) ≡ 22 * suc n = omega arith in
    rw (← bits)
    (then-enough 22 (22 * n + 0) b (read_pixel b) (λ x r. read_pixels n r then λ xs s. got (x ∷ xs) s) (read_pixel-enough b)
    (λ x r. then-enough (22 * n) 0 r (read_pixels n r) (λ xs s. got (x ∷ xs) s) (read_pixels-enough n r) (λ xs s. omega arith)))

-- ---- a group: 3 bits, and its pixels or positions
read_code-enough : (b : List ℕ) → Ample 3 b (read_code b)
unfolding read_code
read_code-enough b =
    let third : List ℕ → Parse Code = λ s. read_field 1 s then λ z t. cond (eqb z 1) (got two t) (got direct t) in
    let second : List ℕ → Parse Code = λ r. read_field 1 r then λ y s. cond (eqb y 1) (got one s) (third s) in
    then-enough 1 2 b (read_field 1 b) (λ x r. cond (eqb x 1) (got zeros r) (second r)) (read_field-enough 1 b)
    (λ x r. test-enough (eqb x 1) 2 r (got zeros r) (second r) (omega arith)
    (then-enough 1 1 r (read_field 1 r) (λ y s. cond (eqb y 1) (got one s) (third s)) (read_field-enough 1 r)
    (λ y s. test-enough (eqb y 1) 1 s (got one s) (third s) (omega arith)
    (then-enough 1 0 s (read_field 1 s) (λ z t. cond (eqb z 1) (got two t) (got direct t)) (read_field-enough 1 s)
    (λ z t. test-enough (eqb z 1) 0 t (got two t) (got direct t) (omega arith) (omega arith))))))

three_or_more-enough : (xs r : List ℕ) → Ample 0 r (three_or_more xs r)
three_or_more-enough xs r =
    test-enough (ltb (sum xs) 3) 0 r (stops 20) (got xs r) (λ z. absurd (omega arith)) (omega arith)

pub above_power : (k : ℕ) → k < 2 ^ k
above_power zero = omega arith
above_power (suc k) = rw (pow-suc 2 k) (omega (arith, above_power k))

module _ (k : ℕ) where
  read_body-enough : (c : Code) (b : List ℕ) → Ample (22 * 2 ^ k) b (read_body k c b)
  unfolding read_body
  read_body-enough zeros b = omega arith
  read_body-enough one b =
      more-enough (k + 0) (22 * 2 ^ k) b (read_body k one b) (omega (arith, above_power k))
      (then-enough k 0 b (read_field k b) (λ n r. got (photon n (dark k)) r) (read_field-enough k b) (λ n r. omega arith))
  read_body-enough two b =
      more-enough (k + (k + 0)) (22 * 2 ^ k) b (read_body k two b) (omega (arith, above_power k))
      (then-enough k (k + 0) b (read_field k b) (λ n r. read_field k r then λ m s. got (photon m (photon n (dark k))) s)
      (read_field-enough k b)
      (λ n r. then-enough k 0 r (read_field k r) (λ m s. got (photon m (photon n (dark k))) s) (read_field-enough k r)
      (λ m s. omega arith)))
  read_body-enough direct b =
      more-enough (22 * 2 ^ k + 0) (22 * 2 ^ k) b (read_body k direct b) (omega arith)
      (then-enough (22 * 2 ^ k) 0 b (read_pixels (2 ^ k) b) three_or_more (read_pixels-enough (2 ^ k) b) three_or_more-enough)

  read_group-enough : (b : List ℕ) → Ample (3 + 22 * 2 ^ k) b (read_group k b)
  unfolding read_group
  read_group-enough b = then-enough 3 (22 * 2 ^ k) b (read_code b) (read_body k) (read_code-enough b) read_body-enough

  pub read_groups-enough : (n : ℕ) (b : List ℕ) → Ample (n * (3 + 22 * 2 ^ k)) b (read_groups k n b)
  unfolding read_groups
  read_groups-enough zero b = omega arith
  read_groups-enough (suc n) b =
      let u : ℕ = 3 + 22 * 2 ^ k in
      let bits : u + (n * u + 0) ≡ suc n * u = rw (suc-mul n u) (omega arith) in
      rw (← bits)
      (then-enough u (n * u + 0) b (read_group k b) (λ xs r. read_groups k n r then λ ys s. got (xs ++ ys) s) (read_group-enough b)
      (λ xs r. then-enough (n * u) 0 r (read_groups k n r) (λ ys s. got (xs ++ ys) s) (read_groups-enough n r)
      (λ ys s. omega arith)))
