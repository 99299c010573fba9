-- The tables of powers of two, and quotients by a power as products with another. Assumes nothing.
use Prim.{Unit}
use Prim.Native.Nat.{ℕ, zero, suc, ◌+◌, ◌-◌, ◌*◌, ◌/◌, ◌%◌, ◌^◌, ◌≤◌, ◌<◌, zero-le}
use native.Mathlib.Nat.{mod-eq_of_lt, div-le_self, mul-le-mul, mul-div-mul_right, mul-add-div_right, mul_assoc, suc-mul, zero-mul}
use native.Mathlib.Omega.{arith}
use mathlib.Core.Path.{◌≡◌, refl, sym, ap, ◌∙◌}
use lib.Arith.{lt_of_le-ne}
use lib.Bits.{bit_and, and_high}
use lib.Pow.{pow_pos, pow-add, pow-lt, pow_mono, split, field, mod-mod-pow}

-- ---- a table's last arm: an index that is none of those before it
abbrev pub NoneBelow : ℕ → ℕ → Type 0
NoneBelow zero x = Unit
NoneBelow (suc k) x = NoneBelow k x × (x ≡ k → ⊥)

none_below : (k x : ℕ) → NoneBelow k x → k ≤ x
none_below zero x h = zero-le
none_below (suc k) x h = lt_of_le-ne (none_below k x h.0) (λ e. h.1 (sym e))

pub last-index : (k : ℕ) {x : ℕ} → x < suc k → NoneBelow k x → x ≡ k
last-index k {x} h r = omega (arith, none_below k x r)

-- ---- the entry at an index, whose number is computed where this is cited
pub wide-entry : {i n : ℕ} → n < 64 → n % 64 ≡ i → 2 ^ i ≡ 2 ^ n
wide-entry h e = ap (2 ^◌) (sym e ∙ mod-eq_of_lt h)

pub two-entries : {i j : ℕ} → i ≡ j → (2 ^ (2 * j) ≡ 2 ^ (2 * i)) × (2 * 2 ^ (2 * j) ≡ 2 * 2 ^ (2 * i))
two-entries e =
    let entry = ap (λ (x : ℕ). 2 ^ (2 * x)) (sym e) in
    (entry, ap (2 *◌) entry)

pub up-entry : {j k : ℕ} → k < 8 → k % 8 ≡ j → 2 ^ (7 - j) ≡ 2 ^ (7 - k)
up-entry h e = ap (λ (x : ℕ). 2 ^ (7 - x)) (sym e ∙ mod-eq_of_lt h)

-- ---- 2 ^ n of its even part p and its odd bit b: p where 2 p b is 0, and 2 p b where it is not
even-part : {n : ℕ} → n < 32 → 2 ^ (2 * (n / 2 % 16)) * 2 ^ (n % 2) ≡ 2 ^ n
even-part {n} h =
    let half : 2 * (n / 2 % 16) + n % 2 ≡ n = omega arith in
    sym (pow-add 2 (2 * (n / 2 % 16)) (n % 2)) ∙ ap (2 ^◌) half

doubled_fits : (p b : ℕ) → b < 2 → p * 2 ^ b < 2 ^ 32 → 2 * p * b < 2 ^ 32
doubled_fits p zero h l = omega arith
doubled_fits p (suc zero) h l = omega arith
doubled_fits p (suc (suc b)) h l = absurd (omega arith)

not-doubled : (p b : ℕ) → b < 2 → 0 < p → 2 * p * b ≡ 0 → p ≡ p * 2 ^ b
not-doubled p zero h l e = omega arith
not-doubled p (suc zero) h l e = absurd (omega arith)
not-doubled p (suc (suc b)) h l e = absurd (omega arith)

doubled : (p b : ℕ) → b < 2 → (2 * p * b ≡ 0 → ⊥) → 2 * p * b ≡ p * 2 ^ b
doubled p zero h n = absurd (n (omega arith))
doubled p (suc zero) h n = omega arith
doubled p (suc (suc b)) h n = absurd (omega arith)

pub odd-fits : {n q : ℕ} → n < 32 → q ≡ 2 * 2 ^ (2 * (n / 2 % 16)) → q * (n % 2) < 2 ^ 32
odd-fits {n} {q} h e =
    rw e (doubled_fits (2 ^ (2 * (n / 2 % 16))) (n % 2) (omega arith) (rw (even-part h) (pow-lt h)))

pub when-even :
    {n p q : ℕ} → n < 32 → p ≡ 2 ^ (2 * (n / 2 % 16)) → q ≡ 2 * 2 ^ (2 * (n / 2 % 16)) → q * (n % 2) ≡ 0 → p ≡ 2 ^ n
when-even {n} h d e z =
    let even = 2 * (n / 2 % 16) in
    d ∙ not-doubled (2 ^ even) (n % 2) (omega arith) (pow_pos even) (ap (◌* (n % 2)) (sym e) ∙ z) ∙ even-part h

pub when-odd : {n q : ℕ} → n < 32 → q ≡ 2 * 2 ^ (2 * (n / 2 % 16)) → (q * (n % 2) ≡ 0 → ⊥) → q * (n % 2) ≡ 2 ^ n
when-odd {n} h e z =
    let scaled = ap (◌* (n % 2)) e in
    scaled ∙ doubled (2 ^ (2 * (n / 2 % 16))) (n % 2) (omega arith) (λ w. z (scaled ∙ w)) ∙ even-part h

-- ---- the quotient by 2 ^ k: times 2 ^ j, then k + j bits down
quotient : (v j k : ℕ) → v * 2 ^ j / 2 ^ (k + j) ≡ v / 2 ^ k
quotient v j k = ap (v * 2 ^ j /◌) (pow-add 2 k j) ∙ mul-div-mul_right v (2 ^ k) (pow_pos j)

-- the same of a number in two halves
halved : (v j k : ℕ) → k + j ≡ 32 → v / 4294967296 * 2 ^ j + v % 4294967296 * 2 ^ j / 2 ^ (k + j) ≡ v / 2 ^ k
halved v j k e =
    let high = v / 4294967296 in
    let low = v % 4294967296 in
    let places : 32 ≡ j + k = omega arith in
    let up : high * 4294967296 ≡ high * 2 ^ j * 2 ^ k
    = ap (high *◌) (ap (2 ^◌) places ∙ pow-add 2 j k) ∙ sym (mul_assoc high (2 ^ j) (2 ^ k)) in
    rw (quotient low j k)
    (sym (mul-add-div_right (pow_pos k) (high * 2 ^ j) low)
    ∙ ap (λ (x : ℕ). (x + low) / 2 ^ k) (sym up)
    ∙ ap (◌/ 2 ^ k) (split v 32))

-- what `window_in_byte` makes of a number's first five bytes and its entry p
pub five-fits : (v k : ℕ) {p : ℕ} → p ≡ 2 ^ (7 - k) → v % 1099511627776 * p < 2 ^ 64
five-fits v k {p} e =
    let shift : 7 - k ≤ 7 = omega arith in
    let entry : p ≤ 128 = rw e (pow_mono shift) in
    let bytes : v % 1099511627776 ≤ 1099511627776 = omega arith in
    omega (arith, mul-le-mul bytes entry)

of-five : (v : ℕ) {k : ℕ} → k < 8 → v % 2 ^ 40 / 2 ^ k % 2 ^ 32 ≡ v / 2 ^ k % 2 ^ 32
of-five v {k} h =
    let all : 40 ≡ 40 - k + k = omega arith in
    let rest : 40 - k ≡ 8 - k + 32 = omega arith in
    ap (λ (x : ℕ). v % 2 ^ x / 2 ^ k % 2 ^ 32) all
    ∙ ap (◌% 2 ^ 32) (field v (40 - k) k)
    ∙ ap (λ (x : ℕ). v / 2 ^ k % 2 ^ x % 2 ^ 32) rest
    ∙ mod-mod-pow (v / 2 ^ k) (8 - k) 32

pub five-value : (v : ℕ) {p k : ℕ} → k < 8 → p ≡ 2 ^ (7 - k) → v % 2 ^ 40 * p / 128 % 2 ^ 32 ≡ v / 2 ^ k % 2 ^ 32
five-value v {p} {k} h e =
    let places : 7 ≡ k + (7 - k) = omega arith in
    let low = v % 2 ^ 40 in
    let product : low * p / 128 ≡ low / 2 ^ k
    = rw e (ap (λ (x : ℕ). low * 2 ^ (7 - k) / 2 ^ x) places ∙ quotient low (7 - k) k) in
    ap (◌% 2 ^ 32) product ∙ of-five v h

-- and `window` of any number and its entry p, each within 64 bits
pub record Taken (v k p : ℕ) : Type 0 where
  pub high : v / 4294967296 * p < 2 ^ 64
  pub low : v % 4294967296 * p < 2 ^ 64
  pub both : v / 4294967296 * p + v % 4294967296 * p / 4294967296 < 2 ^ 64
  pub value : v / 4294967296 * p + v % 4294967296 * p / 4294967296 ≡ v / 2 ^ k

pub taken : {v k p : ℕ} → v < 2 ^ 64 → k < 32 → p ≡ 2 ^ (32 - k) → Taken v k p
taken {v} {k} {p} fits h e =
    let places : k + (32 - k) ≡ 32 = omega arith in
    let down : (x : ℕ) → x / 4294967296 ≡ x / 2 ^ (k + (32 - k)) = λ x. ap (λ (i : ℕ). x / 2 ^ i) (sym places) in
    let low = v % 4294967296 * 2 ^ (32 - k) in
    let all : v / 4294967296 * 2 ^ (32 - k) + low / 4294967296 ≡ v / 2 ^ k
    = ap (v / 4294967296 * 2 ^ (32 - k) +◌) (down low) ∙ halved v (32 - k) k places in
    let part : low / 4294967296 ≡ v % 4294967296 / 2 ^ k = down low ∙ quotient (v % 4294967296) (32 - k) k in
    rw e
    record {
      high = omega (arith, all, div-le_self v (2 ^ k));
      low = omega (arith, part, div-le_self (v % 4294967296) (2 ^ k));
      both = omega (arith, all, div-le_self v (2 ^ k));
      value = all;
    }

-- ---- one bit: what a mask of it leaves
masked-bit : (v k : ℕ) → bit_and v (2 ^ k) ≡ v / 2 ^ k % 2 * 2 ^ k
masked-bit v k =
    let mask : 2 ^ (1 + k) - 2 ^ k ≡ 2 ^ k = rw (pow-add 2 1 k) (omega arith) in
    ap (bit_and v) (sym mask) ∙ and_high v 1 k

bit-clear : (b p : ℕ) → 0 < p → b * p ≡ 0 → 0 ≡ b
bit-clear zero p h e = refl
bit-clear (suc b) p h e = absurd (omega (arith, suc-mul b p))

bit-set : (b p : ℕ) → b < 2 → (b * p ≡ 0 → ⊥) → 1 ≡ b
bit-set zero p h n = absurd (n (zero-mul p))
bit-set (suc zero) p h n = refl
bit-set (suc (suc b)) p h n = absurd (omega arith)

pub clear : (v k : ℕ) {p : ℕ} → bit_and v p ≡ 0 → p ≡ 2 ^ k → 0 ≡ v / 2 ^ k % 2
clear v k h e =
    let none : v / 2 ^ k % 2 * 2 ^ k ≡ 0 = sym (masked-bit v k) ∙ ap (bit_and v) (sym e) ∙ h in
    bit-clear (v / 2 ^ k % 2) (2 ^ k) (pow_pos k) none

pub set : (v k : ℕ) {p : ℕ} → (bit_and v p ≡ 0 → ⊥) → p ≡ 2 ^ k → 1 ≡ v / 2 ^ k % 2
set v k h e =
    bit-set (v / 2 ^ k % 2) (2 ^ k) (omega arith) (λ z. h (ap (bit_and v) e ∙ masked-bit v k ∙ z))
