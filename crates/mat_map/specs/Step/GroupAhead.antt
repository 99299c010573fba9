-- Laws of a group whose code and positions are looked at once: v is the number of eleven bits from bit place `at` on. Assumes nothing.
use Rattle.std.specs.Prelude.{ℕ, ◌+◌, ◌-◌, ◌*◌, ◌/◌, ◌%◌, ◌^◌, ◌≤◌, ◌<◌, ◌≡◌, List, length, take, drop, get_or, set}
use Rattle.std.proofs.Common.{arith, sym, subst}
use Rattle.std.proofs.Math.Path.{refl}
use Rattle.bitstream.specs.Msb.{msb_num, msb_bits_of}
use Rattle.map_format.specs.Reading.{got, zeros, one, two, direct, read_field, read_code, read_body, read_group}
use Rattle.mat_map.specs.Step.{Stepped, StepReads, code_of, after_zero, after_two_zeros, GroupReady, Stored}
use Rattle.mat_map.specs.Step.Laws.{bit-one, bit-zero, bit-last}
use Rattle.mat_map.specs.Step.Ahead.{ahead}
use Rattle.mat_map.specs.Step.Group.{ready-later, second_fits, one-put, two-put, group-dark, group-body}

module _ (s : List ℕ) (at v : ℕ) (there : at + 11 ≤ 8 * length s) (is : v ≡ msb_num (take 11 (drop at (msb_bits_of s)))) where
  -- ---- the code
  abbrev first : Stepped
  first = record { number = 0; value = v / 1024 % 2; next = at + 1 }

  first-is : StepReads (msb_bits_of s) (at + 1) 2 (read_field 1 (drop at (msb_bits_of s))) first.value first
  first-is = ahead s at 11 v there is 0 1 10 at (at + 1) (at + 1) refl (omega arith) (omega arith) (omega arith)

  code-zeros : v / 1024 % 2 ≡ 1 → let x : Stepped = record { number = 0; value = 0; next = at + 1 } in
      StepReads (msb_bits_of s) (at + 3) 4 (read_code (drop at (msb_bits_of s))) (code_of x.value) x
  unfolding read_code
  code-zeros e = bit-one zeros after_zero (msb_bits_of s) at (at + 3) first first-is refl (omega arith) e 0 (omega arith) refl _ refl

  module _ (not_first : v / 1024 % 2 ≡ 1 → ⊥) where
    abbrev second : Stepped
    second = record { number = 0; value = v / 512 % 2; next = at + 2 }

    second_is : StepReads (msb_bits_of s) (at + 1 + 1) 2 (read_field 1 (drop (at + 1) (msb_bits_of s))) second.value second
    second_is = ahead s at 11 v there is 1 1 9 (at + 1) (at + 2) (at + 1 + 1) refl (omega arith) (omega arith) (omega arith)

    code_one : v / 512 % 2 ≡ 1 → let x : Stepped = record { number = 0; value = 1; next = at + 2 } in
        StepReads (msb_bits_of s) (at + 3) 4 (read_code (drop at (msb_bits_of s))) (code_of x.value) x
    unfolding read_code
    code_one e =
        bit-zero zeros after_zero (msb_bits_of s) at (at + 3) first first-is refl not_first _ (at + 3) (omega arith)
        (bit-one one after_two_zeros (msb_bits_of s) (at + 1) (at + 3) second second_is refl (omega arith) e 1 (omega arith) refl _ refl)

    module _ (not-second : v / 512 % 2 ≡ 1 → ⊥) where
      abbrev third : Stepped
      third = record { number = 0; value = v / 256 % 2; next = at + 3 }

      third-is : StepReads (msb_bits_of s) (at + 2 + 1) 2 (read_field 1 (drop (at + 2) (msb_bits_of s))) third.value third
      third-is = ahead s at 11 v there is 2 1 8 (at + 2) (at + 3) (at + 2 + 1) refl (omega arith) (omega arith) (omega arith)

      code-two : v / 256 % 2 ≡ 1 → let x : Stepped = record { number = 0; value = 2; next = at + 3 } in
          StepReads (msb_bits_of s) (at + 3) 4 (read_code (drop at (msb_bits_of s))) (code_of x.value) x
      unfolding read_code
      code-two e =
          bit-zero zeros after_zero (msb_bits_of s) at (at + 3) first first-is refl not_first _ (at + 3) (omega arith)
          (bit-zero one after_two_zeros (msb_bits_of s) (at + 1) (at + 3) second second_is refl not-second _ (at + 3) (omega arith)
          (bit-one two (got direct) (msb_bits_of s) (at + 2) (at + 3) third third-is refl (omega arith) e 2 (omega arith) refl _ refl))

      code-direct : (v / 256 % 2 ≡ 1 → ⊥) → let x : Stepped = record { number = 0; value = 3; next = at + 3 } in
          StepReads (msb_bits_of s) (at + 3) 4 (read_code (drop at (msb_bits_of s))) (code_of x.value) x
      unfolding read_code
      code-direct n =
          bit-zero zeros after_zero (msb_bits_of s) at (at + 3) first first-is refl not_first _ (at + 3) (omega arith)
          (bit-zero one after_two_zeros (msb_bits_of s) (at + 1) (at + 3) second second_is refl not-second _ (at + 2 + 1) (omega arith)
          (bit-last two (msb_bits_of s) (at + 2) third third-is refl n _ refl))

  -- ---- the group
  module _ (k place : ℕ) (l : List ℕ) (ready : GroupReady k (at + 3) place l) where
    pub ahead-dark : v / 1024 % 2 ≡ 1 → let y : Stepped = record { number = 0; value = 0; next = at + 1 } in
        Stored (msb_bits_of s) (at + 3 + 22 * 2 ^ k) (read_group k (drop at (msb_bits_of s))) place (2 ^ k) l l y
    ahead-dark e = group-dark (msb_bits_of s) k at place l _ (code-zeros e) refl ready refl

    module _ (not_first : v / 1024 % 2 ≡ 1 → ⊥) where
      -- one position p
      module _ (e : v / 512 % 2 ≡ 1) (p : ℕ) (p-is : p ≡ v / 2 ^ (9 - k) % 2 ^ k) where
        abbrev only : Stepped
        only = record { number = 0; value = p; next = at + 2 + k }

        only-is : StepReads (msb_bits_of s) (at + 2 + k) (2 ^ k) (read_field k (drop (at + 2) (msb_bits_of s))) p only
        only-is =
            subst (λ (w : ℕ). StepReads (msb_bits_of s) (at + 2 + k) (2 ^ k) (read_field k (drop (at + 2) (msb_bits_of s))) w
            (record { number = 0; value = w; next = at + 2 + k })) (sym p-is)
            (ahead s at 11 v there is 2 k (9 - k) (at + 2) (at + 2 + k) (at + 2 + k) (omega (arith, ready.few)) refl refl (omega arith))

        pub one-low : p < 2 ^ k
        one-low = (only-is.goes refl).low

        pub ahead-one : (l' : List ℕ) → l' ≡ set l (place + p) (get_or l (place + p) 0 + 1)
            → let y : Stepped = record { number = 0; value = 1; next = at + 2 + k } in
            Stored (msb_bits_of s) (at + 3 + 22 * 2 ^ k) (read_group k (drop at (msb_bits_of s))) place (2 ^ k) l l' y
        ahead-one l' put =
            group-body (msb_bits_of s) k at place l _ (code_one not_first e) refl one refl l' _
            (one-put (msb_bits_of s) k (at + 2) place l (ready-later ready (omega arith)) only only-is refl l' put)

      module _ (not-second : v / 512 % 2 ≡ 1 → ⊥) where
        -- two positions p and q
        module _ (e : v / 256 % 2 ≡ 1) (p : ℕ) (p-is : p ≡ v / 2 ^ (8 - k) % 2 ^ k) where
          abbrev one_of : Stepped
          one_of = record { number = 0; value = p; next = at + 3 + k }

          one-of-is : StepReads (msb_bits_of s) (at + 3 + k) (2 ^ k) (read_field k (drop (at + 3) (msb_bits_of s))) p one_of
          one-of-is =
              subst (λ (w : ℕ). StepReads (msb_bits_of s) (at + 3 + k) (2 ^ k) (read_field k (drop (at + 3) (msb_bits_of s))) w
              (record { number = 0; value = w; next = at + 3 + k })) (sym p-is)
              (ahead s at 11 v there is 3 k (8 - k) (at + 3) (at + 3 + k) (at + 3 + k) (omega (arith, ready.few)) refl refl (omega arith))

          pub first-low : p < 2 ^ k
          first-low = (one-of-is.goes refl).low

          module _
              (l' : List ℕ) (put : l' ≡ set l (place + p) (get_or l (place + p) 0 + 1))
              (q : ℕ) (q-is : q ≡ v / 2 ^ (8 - k - k) % 2 ^ k) where
            abbrev other : Stepped
            other = record { number = 0; value = q; next = at + 3 + k + k }

            other-is : StepReads (msb_bits_of s) (at + 3 + k + k) (2 ^ k) (read_field k (drop (at + 3 + k) (msb_bits_of s))) q other
            other-is =
                subst (λ (w : ℕ). StepReads (msb_bits_of s) (at + 3 + k + k) (2 ^ k) (read_field k (drop (at + 3 + k) (msb_bits_of s))) w
                (record { number = 0; value = w; next = at + 3 + k + k })) (sym q-is)
                (ahead s at 11 v there is (3 + k) k (8 - k - k) (at + 3 + k) (at + 3 + k + k) (at + 3 + k + k) (omega (arith, ready.few))
                (omega arith) (omega arith) (omega arith))

            pub second-low : q < 2 ^ k
            second-low = (other-is.goes refl).low

            pub second-room : get_or l' (place + q) 0 + 1 < 65536
            second-room = second_fits (msb_bits_of s) k (at + 3) place l ready one_of one-of-is refl l' put q second-low

            pub ahead-two : (l'' : List ℕ) → l'' ≡ set l' (place + q) (get_or l' (place + q) 0 + 1)
                → let y : Stepped = record { number = 0; value = 2; next = at + 3 + k + k } in
                Stored (msb_bits_of s) (at + 3 + 22 * 2 ^ k) (read_group k (drop at (msb_bits_of s))) place (2 ^ k) l l'' y
            ahead-two l'' put' =
                group-body (msb_bits_of s) k at place l _ (code-two not_first not-second e) refl two refl l'' _
                (two-put (msb_bits_of s) k (at + 3) place l ready one_of one-of-is refl l' put other other-is refl l'' put')

        -- each pixel
        pub ahead-each : (v / 256 % 2 ≡ 1 → ⊥) → (l' : List ℕ) (y : Stepped)
            → Stored (msb_bits_of s) (at + 3 + 22 * 2 ^ k) (read_body k direct (drop (at + 3) (msb_bits_of s))) place (2 ^ k) l l' y
            → Stored (msb_bits_of s) (at + 3 + 22 * 2 ^ k) (read_group k (drop at (msb_bits_of s))) place (2 ^ k) l l' y
        ahead-each n l' y h = group-body (msb_bits_of s) k at place l _ (code-direct not_first not-second n) refl direct refl l' y h
