-- More bits after those that are read: a reading that is not refused 19 is unchanged by them. This holds of any numbers in place of
-- bits. Assumes nothing.
use Prim.Native.Nat.{ℕ, zero, suc, ◌+◌, ◌^◌, ◌≤◌}
use Rattle.std.proofs.Common.{arith}
use Rattle.std.specs.Prelude.{◌≡◌, Bool, true, false, ltb, eqb}
use Rattle.std.proofs.Math.Path.{refl}
use Rattle.std.proofs.Math.Bool.{cond}
use mathlib.Core.List.{List, ◌∷◌, ◌++◌}
use Rattle.std.proofs.Math.ListN.{length, length-append}
use Rattle.std.proofs.Math.Seq.{take-append-le, drop-append-le}
use borrow.Author.Tests.{ltb-false, le-ltb}
use Rattle.row_format.specs.Lists.Laws.{by-test}
use Rattle.map_format.specs.Reading.{Parse, stops, got, ◌then◌, read_field, wide_value, four_bits, two_bits, read_pixel, read_pixels, Code}
use Rattle.map_format.specs.Reading.{zeros, one, two, direct, read_code, sum, photon, dark, three_or_more, read_body, read_group}
use Rattle.map_format.specs.Reading.{read_groups}

module _ (more : List ℕ) where
  -- what a reading came to, and what it comes to with more bits
  abbrev pub GoesOn : {A : Type 0} → Parse A → Parse A → Type 0
  GoesOn (got v r) y = y ≡ got v (r ++ more)
  GoesOn (stops e) y = (e ≡ 19 → ⊥) → y ≡ stops e

  pub then-goes-on : {A B : Type 0} (x y : Parse A) (f : A → List ℕ → Parse B) → GoesOn x y
      → ((v : A) (r : List ℕ) → GoesOn (f v r) (f v (r ++ more))) → GoesOn (x then f) (y then f)
  then-goes-on (got v r) y f h next = rw h (next v r)
  then-goes-on (stops e) y f h next = λ some. rw (h some)

  pub test-goes-on : {A : Type 0} (b : Bool) (x y x' y' : Parse A) → GoesOn x x' → GoesOn y y' → GoesOn (cond b x y) (cond b x' y')
  test-goes-on true x y x' y' h g = h
  test-goes-on false x y x' y' h g = g

  read_field-goes-on : (n : ℕ) (b : List ℕ) → GoesOn (read_field n b) (read_field n (b ++ more))
  unfolding read_field
  read_field-goes-on n b =
      by-test (ltb (length b) n) (λ e. rw e (λ some. absurd (some refl)))
      (λ e.
      let enough : n ≤ length b = ltb-false (length b) n e in
      rw (
        e,
        le-ltb (length (b ++ more)) n (omega (arith, length-append b more)),
        take-append-le n b more enough,
        drop-append-le n b more enough,
      ))

  wide_value-goes-on : (x : ℕ) (r : List ℕ) → GoesOn (wide_value x r) (wide_value x (r ++ more))
  wide_value-goes-on x r = test-goes-on (ltb 17 x) (got x r) (stops 20) (got x (r ++ more)) (stops 20) refl (λ some. refl)

  four_bits-goes-on : (f : ℕ) (r : List ℕ) → GoesOn (four_bits f r) (four_bits f (r ++ more))
  four_bits-goes-on f r =
      test-goes-on (ltb f 15) (got (3 + f) r) (read_field 16 r then wide_value) (got (3 + f) (r ++ more))
      (read_field 16 (r ++ more) then wide_value) refl
      (then-goes-on (read_field 16 r) (read_field 16 (r ++ more)) wide_value (read_field-goes-on 16 r) wide_value-goes-on)

  two_bits-goes-on : (x : ℕ) (r : List ℕ) → GoesOn (two_bits x r) (two_bits x (r ++ more))
  two_bits-goes-on x r =
      test-goes-on (ltb x 3) (got x r) (read_field 4 r then four_bits) (got x (r ++ more)) (read_field 4 (r ++ more) then four_bits) refl
      (then-goes-on (read_field 4 r) (read_field 4 (r ++ more)) four_bits (read_field-goes-on 4 r) four_bits-goes-on)

  read_pixel-goes-on : (b : List ℕ) → GoesOn (read_pixel b) (read_pixel (b ++ more))
  unfolding read_pixel
  read_pixel-goes-on b = then-goes-on (read_field 2 b) (read_field 2 (b ++ more)) two_bits (read_field-goes-on 2 b) two_bits-goes-on

  read_pixels-goes-on : (n : ℕ) (b : List ℕ) → GoesOn (read_pixels n b) (read_pixels n (b ++ more))
  unfolding read_pixels
  read_pixels-goes-on zero b = refl
  read_pixels-goes-on (suc n) b =
      then-goes-on (read_pixel b) (read_pixel (b ++ more)) (λ x r. read_pixels n r then λ xs s. got (x ∷ xs) s) (read_pixel-goes-on b)
      (λ x r. then-goes-on (read_pixels n r) (read_pixels n (r ++ more)) (λ xs s. got (x ∷ xs) s) (read_pixels-goes-on n r)
      (λ xs s. refl))

  read_code-goes-on : (b : List ℕ) → GoesOn (read_code b) (read_code (b ++ more))
  unfolding read_code
  read_code-goes-on b =
      let third : List ℕ → Parse Code = λ s. read_field 1 s then λ z t. cond (eqb z 1) (got two t) (got direct t) in
      let second : List ℕ → Parse Code = λ r. read_field 1 r then λ y s. cond (eqb y 1) (got one s) (third s) in
      then-goes-on (read_field 1 b) (read_field 1 (b ++ more)) (λ x r. cond (eqb x 1) (got zeros r) (second r)) (read_field-goes-on 1 b)
      (λ x r. test-goes-on (eqb x 1) (got zeros r) (second r) (got zeros (r ++ more)) (second (r ++ more)) refl
      (then-goes-on (read_field 1 r) (read_field 1 (r ++ more)) (λ y s. cond (eqb y 1) (got one s) (third s)) (read_field-goes-on 1 r)
      (λ y s. test-goes-on (eqb y 1) (got one s) (third s) (got one (s ++ more)) (third (s ++ more)) refl
      (then-goes-on (read_field 1 s) (read_field 1 (s ++ more)) (λ z t. cond (eqb z 1) (got two t) (got direct t)) (read_field-goes-on 1 s)
      (λ z t. test-goes-on (eqb z 1) (got two t) (got direct t) (got two (t ++ more)) (got direct (t ++ more)) refl refl)))))

  three_or_more-goes-on : (xs r : List ℕ) → GoesOn (three_or_more xs r) (three_or_more xs (r ++ more))
  three_or_more-goes-on xs r =
      test-goes-on (ltb (sum xs) 3) (stops 20) (got xs r) (stops 20) (got xs (r ++ more)) (λ some. refl) refl

  module _ (k : ℕ) where
    read_body-goes-on : (c : Code) (b : List ℕ) → GoesOn (read_body k c b) (read_body k c (b ++ more))
    unfolding read_body
    read_body-goes-on zeros b = refl
    read_body-goes-on one b =
        then-goes-on (read_field k b) (read_field k (b ++ more)) (λ n r. got (photon n (dark k)) r) (read_field-goes-on k b) (λ n r. refl)
    read_body-goes-on two b =
        then-goes-on (read_field k b) (read_field k (b ++ more))
        (λ n r. read_field k r then λ m s. got (photon m (photon n (dark k))) s) (read_field-goes-on k b)
        (λ n r. then-goes-on (read_field k r) (read_field k (r ++ more)) (λ m s. got (photon m (photon n (dark k))) s)
        (read_field-goes-on k r) (λ m s. refl))
    read_body-goes-on direct b =
        then-goes-on (read_pixels (2 ^ k) b) (read_pixels (2 ^ k) (b ++ more)) three_or_more (read_pixels-goes-on (2 ^ k) b) three_or_more-goes-on

    read_group-goes-on : (b : List ℕ) → GoesOn (read_group k b) (read_group k (b ++ more))
    unfolding read_group
    read_group-goes-on b = then-goes-on (read_code b) (read_code (b ++ more)) (read_body k) (read_code-goes-on b) read_body-goes-on

    pub read_groups-goes-on : (n : ℕ) (b : List ℕ) → GoesOn (read_groups k n b) (read_groups k n (b ++ more))
    unfolding read_groups
    read_groups-goes-on zero b = refl
    read_groups-goes-on (suc n) b =
        then-goes-on (read_group k b) (read_group k (b ++ more)) (λ xs r. read_groups k n r then λ ys s. got (xs ++ ys) s)
        (read_group-goes-on b)
        (λ xs r. then-goes-on (read_groups k n r) (read_groups k n (r ++ more)) (λ ys s. got (xs ++ ys) s) (read_groups-goes-on n r)
        (λ ys s. refl))
