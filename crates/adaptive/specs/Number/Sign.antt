-- A signed number is two's complement in its data bits, 7 a byte. Assumes nothing.
use Rattle.std.specs.Prelude.{ℕ, zero, suc, ◌+◌, ◌-◌, ◌*◌, ◌/◌, ◌%◌, ◌^◌, ◌≤◌, ◌<◌, ◌≡◌, List, [], ◌∷◌, length, ℤ, pos, negsuc, ◌-ℤ◌}
use Rattle.std.proofs.Common.{pow-suc, add-mul, add-zero, zero-mul, one-mul, suc-mul, mod-lt, mod-eq_of_lt, not-suc-le-zero, zero-add, arith, sym, ap, ◌∙◌, subst, lit<, pow-add, lt-ltb}
use Rattle.std.proofs.Math.Nat.{mul-add-mod_self_right}
use Rattle.std.proofs.Math.Arith.{digits_lt}
use Rattle.std.specs.Int.Signed.{mag}
use Rattle.adaptive.specs.Number.{data_of, signed_value, twos}
use Rattle.adaptive.specs.Number.Laws.{pow-128-pos, data_of-lt}

-- v is the value of the data bits d of a number with k later bytes
pub data Signed (k d : ℕ) (v : ℤ) : Type 0 where
  clear : d < 64 * 128 ^ k → v ≡ pos d → Signed k d v
  set : 64 * 128 ^ k ≤ d → v ≡ negsuc (128 ^ suc k - suc d) → Signed k d v

pos-sub-lt : (a b : ℕ) → a < b → pos a -ℤ pos b ≡ negsuc (b - suc a)
pos-sub-lt a zero h = absurd (not-suc-le-zero h)
pos-sub-lt a (suc b) h = rw (lt-ltb a (suc b) h)

-- the sign bit s of the first byte, its 6 data bits c, and the data bits e of the later bytes
by_sign : (s c e k : ℕ) → c < 64 → e < 128 ^ k → s < 2
    → Signed k ((64 * s + c) * 128 ^ k + e) (pos (c * 128 ^ k + e) -ℤ pos (s * (64 * 128 ^ k)))
by_sign zero c e k hc he hs =
    rw (zero-add c, zero-mul) (clear (digits_lt hc he) (ap pos (add-zero (c * 128 ^ k + e))))
by_sign (suc zero) c e k hc he hs =
    let low : c * 128 ^ k + e < 64 * 128 ^ k = digits_lt hc he in
    let top : 128 ^ suc k ≡ 128 ^ k * 128 = pow-suc 128 k in
    let same : 64 * 128 ^ k - suc (c * 128 ^ k + e) ≡ 128 ^ suc k - suc (64 * 128 ^ k + c * 128 ^ k + e) = omega arith in
    rw (add-mul 64 c (128 ^ k), one-mul) (set (omega arith) (pos-sub-lt _ _ low ∙ ap negsuc same))
by_sign (suc (suc s)) c e k hc he hs = absurd (omega arith)

by_bytes : (b : ℕ) (bs : List ℕ) → Signed (length bs) (data_of (b ∷ bs)) (signed_value (b ∷ bs))
unfolding data_of signed_value
by_bytes b bs =
    let split : b % 128 ≡ 64 * (b / 64 % 2) + b % 64 = omega arith in
    rw split
    (by_sign (b / 64 % 2) (b % 64) (data_of bs) (length bs) (mod-lt b (lit< tt)) (data_of-lt bs) (mod-lt (b / 64) (lit< tt)))

pub signed_value-is : (bs : List ℕ) (k : ℕ) → length bs ≡ suc k → Signed k (data_of bs) (signed_value bs)
signed_value-is [] k e = absurd (omega arith)
signed_value-is (b ∷ bs) k e =
    let same : length bs ≡ k = omega arith in
    subst (λ (n : ℕ). Signed n (data_of (b ∷ bs)) (signed_value (b ∷ bs))) same (by_bytes b bs)

-- it has no greater magnitude than the bytes have room for
pub signed-mag : {k d : ℕ} {v : ℤ} → d < 128 ^ suc k → Signed k d v → mag v < 64 * 128 ^ k
signed-mag {k} {d} h (clear low e) = rw e low
signed-mag {k} {d} h (set high e) =
    let top : 128 ^ suc k ≡ 128 ^ k * 128 = pow-suc 128 k in
    rw e (omega arith)

-- ---- the value, from the data bits
pub signed-pos : {k m : ℕ} {v : ℤ} → m < 64 * 128 ^ k → Signed k m v → v ≡ pos m
signed-pos h (clear low e) = e
signed-pos h (set high e) = absurd (omega arith)

pub signed-negsuc : {k m : ℕ} {v : ℤ} → m < 64 * 128 ^ k → Signed k (128 ^ suc k - suc m) v → v ≡ negsuc m
signed-negsuc {k} {m} h (clear low e) =
    let top : 128 ^ suc k ≡ 128 ^ k * 128 = pow-suc 128 k in
    absurd (omega arith)
signed-negsuc {k} {m} h (set high e) =
    let top : 128 ^ suc k ≡ 128 ^ k * 128 = pow-suc 128 k in
    let same : 128 ^ suc k - suc (128 ^ suc k - suc m) ≡ m = omega arith in
    e ∙ ap negsuc same

pub signed-set : {k d : ℕ} {v : ℤ} → 64 * 128 ^ k ≤ d → Signed k d v → v ≡ negsuc (128 ^ suc k - suc d)
signed-set h (clear low e) = absurd (omega arith)
signed-set h (set high e) = e

-- ---- the data bits, from the value
-- the low data bits of -1 - m in the two's complement of 35 bits
pub twos-low : (k m : ℕ) → k ≤ 4 → m < 128 ^ suc k → (128 ^ 5 - suc m) % 128 ^ suc k ≡ 128 ^ suc k - suc m
twos-low k m hk hm =
    let five : 4 - k + suc k ≡ 5 = omega arith in
    let whole : 128 ^ 5 ≡ 128 ^ (4 - k) * 128 ^ suc k =
    ap (λ (n : ℕ). 128 ^ n) (sym five) ∙ pow-add 128 (4 - k) (suc k) in
    above (128 ^ (4 - k)) (128 ^ suc k) m (128 ^ 5) whole (pow-128-pos (4 - k)) hm
  where
    above : (c q m t : ℕ) → t ≡ c * q → 0 < c → m < q → (t - suc m) % q ≡ q - suc m
    above zero q m t e h g = absurd (omega arith)
    above (suc c) q m t e h g =
        let e' : t ≡ c * q + q = e ∙ suc-mul c q in
        let split : t - suc m ≡ c * q + (q - suc m) = omega arith in
        let low : q - suc m < q = omega arith in
        rw (split, mul-add-mod_self_right) (mod-eq_of_lt low)

pub signed-twos : (k d : ℕ) (v : ℤ) → k ≤ 4 → d < 128 ^ suc k → Signed k d v → twos v % 128 ^ suc k ≡ d
signed-twos k d v hk h (clear low e) = rw e (mod-eq_of_lt h)
signed-twos k d v hk h (set high e) =
    let below : 128 ^ suc k - suc d < 128 ^ suc k = omega arith in
    let back : 128 ^ suc k - suc (128 ^ suc k - suc d) ≡ d = omega arith in
    rw e (twos-low k (128 ^ suc k - suc d) hk below ∙ back)
