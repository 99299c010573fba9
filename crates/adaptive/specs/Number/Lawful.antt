-- What the theorems ask of a type of number, and that signed and unsigned numbers have it. Assumes nothing.
use Rattle.std.specs.Prelude.{ℕ, suc, ◌*◌, ◌%◌, ◌^◌, ◌-◌, ◌≤◌, ◌<◌, ◌≡◌, refl, Bool, true, false, ◌&&◌, List, length, leb, ℤ, pos, negsuc}
use Rattle.std.proofs.Math.Nat.{pow-succ'}
use Rattle.std.proofs.Common.{mod-eq_of_lt, arith, sym, ◌∙◌, subst, leb-true}
use Rattle.std.specs.Int.Signed.{mag}
use Rattle.adaptive.specs.Number.{NumberType, unsigned_type, signed_type, form_of, data_of, data_bytes, signed_value, twos}
use Rattle.adaptive.specs.Number.Laws.{data_of-lt, data_of-data_bytes, length-data_bytes}
use Rattle.adaptive.specs.Number.Sign.{Signed, signed_value-is, signed-mag, signed-pos, signed-negsuc, twos-low, signed-twos}

pub record LawfulType {A : Type 0} (K : NumberType A) : Type 0 where
  -- a form with room for the value's magnitude stands for the value
  pub form-value : (k : ℕ) (v : A) → k ≤ 4 → K.magnitude v < K.first * 128 ^ k → K.value_of (form_of K k v) ≡ v
  -- bytes stand for no value whose magnitude they have no room for
  pub value-fits : (bs : List ℕ) (k : ℕ) → length bs ≡ suc k → K.magnitude (K.value_of bs) < K.first * 128 ^ k
  -- and they have the data bits of their value
  pub value-data : (bs : List ℕ) (k : ℕ) → length bs ≡ suc k → k ≤ 4
      → K.data_for (K.value_of bs) % 128 ^ suc k ≡ data_of bs
  -- five bytes have room for each value in range
  pub range-fits : (v : A) → K.in_range v ≡ true → K.magnitude v < K.first * 128 ^ 4

pub unsigned-lawful : LawfulType unsigned_type
unsigned-lawful =
    record { form-value = form-value; value-fits = value-fits; value-data = value-data; range-fits = range-fits }
  where
    form-value : (k v : ℕ) → k ≤ 4 → v < 128 * 128 ^ k → data_of (data_bytes k v) ≡ v
    form-value k v hk h = data_of-data_bytes k v ∙ mod-eq_of_lt (rw (pow-succ' 128 k) h)

    value-fits : (bs : List ℕ) (k : ℕ) → length bs ≡ suc k → data_of bs < 128 * 128 ^ k
    value-fits bs k e = rw (← pow-succ' 128 k, ← e) (data_of-lt bs)

    value-data : (bs : List ℕ) (k : ℕ) → length bs ≡ suc k → k ≤ 4 → data_of bs % 128 ^ suc k ≡ data_of bs
    value-data bs k e h = mod-eq_of_lt (rw (← e) (data_of-lt bs))

    range-fits : (v : ℕ) → leb v 4294967295 ≡ true → v < 34359738368
    range-fits v h = omega (arith, leb-true v 4294967295 h)

-- a range that is the same on both sides of 0
pub signed_range : (v : ℤ) → signed_type.in_range v ≡ leb (mag v) 2147483647
signed_range (pos m) = refl
signed_range (negsuc m) = by-test (leb m 2147483647)
  where
    by-test : (t : Bool) → (t && true) ≡ t
    by-test true = refl
    by-test false = refl

pub signed-lawful : LawfulType signed_type
signed-lawful =
    record { form-value = form-value; value-fits = value-fits; value-data = value-data; range-fits = range-fits }
  where
    room : (k m : ℕ) → m < 64 * 128 ^ k → m < 128 ^ suc k
    room k m h = rw (pow-succ' 128 k) (omega arith)

    read : (k d e : ℕ) → d % 128 ^ suc k ≡ e → Signed k e (signed_value (data_bytes k d))
    read k d e h =
        subst (λ (x : ℕ). Signed k x (signed_value (data_bytes k d))) (data_of-data_bytes k d ∙ h)
        (signed_value-is (data_bytes k d) k (length-data_bytes k d))

    form-value : (k : ℕ) (v : ℤ) → k ≤ 4 → mag v < 64 * 128 ^ k → signed_value (data_bytes k (twos v)) ≡ v
    form-value k (pos m) hk h = signed-pos h (read k m m (mod-eq_of_lt (room k m h)))
    form-value k (negsuc m) hk h =
        signed-negsuc h (read k (128 ^ 5 - suc m) (128 ^ suc k - suc m) (twos-low k m hk (room k m h)))

    value-fits : (bs : List ℕ) (k : ℕ) → length bs ≡ suc k → mag (signed_value bs) < 64 * 128 ^ k
    value-fits bs k e = signed-mag (rw (← e) (data_of-lt bs)) (signed_value-is bs k e)

    value-data : (bs : List ℕ) (k : ℕ) → length bs ≡ suc k → k ≤ 4 → twos (signed_value bs) % 128 ^ suc k ≡ data_of bs
    value-data bs k e h = signed-twos k (data_of bs) (signed_value bs) h (rw (← e) (data_of-lt bs)) (signed_value-is bs k e)

    range-fits : (v : ℤ) → signed_type.in_range v ≡ true → mag v < 17179869184
    range-fits v h = omega (arith, leb-true (mag v) 2147483647 (sym (signed_range v) ∙ h))
