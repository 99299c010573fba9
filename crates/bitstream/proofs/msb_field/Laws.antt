-- Fields of bits, the most significant first, out of four bytes. Assumes nothing.
use Prim.Native.Nat.{ℕ, zero, suc, ◌+◌, ◌-◌, ◌*◌, ◌/◌, ◌%◌, ◌^◌, ◌≤◌, ◌<◌}
use native.Mathlib.Nat.{add-zero, add_comm, add-mul, mul_assoc, mul_right_comm, mul-div-mul_right, mod-eq_of_lt}
use native.Mathlib.Decide.{dec_lt}
use native.Mathlib.Omega.{arith}
use mathlib.Core.Path.{◌≡◌, refl, sym, ap, ◌∙◌, subst}
use mathlib.Core.List.{List, [], ◌∷◌}
use lib.ListN.{length, take, drop, get_or, length-drop, take-append-drop}
use lib.Dec.{ltb}
use lib.Seq.{drop-drop}
use lib.Pow.{pow_pos, pow-add, shl_lt, high, low}
use borrow.Author.Tests.{lt-ltb, le-ltb}
use Rattle.bitstream.specs.Bits.{Below, pad}
use Rattle.bitstream.specs.Bits.Laws.{below-drop, pad-add, length-pad, below-pad, pad-at, take-pad, drop-pad, pad-short}
use Rattle.bitstream.specs.Memory.{ByteAt}
use Rattle.bitstream.specs.Msb.{msb_digits, msb_num, msb_bits_of}
use Rattle.bitstream.specs.Msb.Laws.{
  length-msb_digits,
  msb_num-digits,
  msb_num-append,
  msb_num-lt,
  length-msb_bits_of,
  below-msb_bits_of,
  msb_bits_of-drop,
}

-- ---- a number read a byte at a time, the highest first
-- a byte past the end counts as 0
byte-number : (at : ℕ) (s : List ℕ) → msb_num (pad 8 (msb_bits_of (drop at s))) ≡ get_or s at 0 % 256
unfolding msb_bits_of msb_num
byte-number zero [] = refl
byte-number zero (x ∷ s) = ap msb_num (pad-at (msb_digits 8 x) (msb_bits_of s) 8 (length-msb_digits 8 x)) ∙ msb_num-digits 8 x
byte-number (suc at) [] = refl
byte-number (suc at) (x ∷ s) = byte-number at s

byte-is : {s : List ℕ} (at : ℕ) {b : ℕ} → ByteAt s at b → msb_num (pad 8 (msb_bits_of (drop at s))) ≡ b
byte-is {s} at h = byte-number at s ∙ ap (◌% 256) (sym h.value) ∙ mod-eq_of_lt h.small

number_more : {s : List ℕ} (i n at : ℕ) {b v : ℕ} → at ≡ i + n → ByteAt s at b → v ≡ msb_num (pad (8 * n) (msb_bits_of (drop i s)))
    → v * 256 + b ≡ msb_num (pad (8 * n + 8) (msb_bits_of (drop i s)))
number_more {s} i n at {b} {v} e h q =
    let bits : List ℕ = msb_bits_of (drop i s) in
    let last : msb_num (pad 8 (drop (8 * n) bits)) ≡ b =
    ap (λ (l : List ℕ). msb_num (pad 8 l)) (sym (msb_bits_of-drop n (drop i s)))
    ∙ ap (λ (l : List ℕ). msb_num (pad 8 (msb_bits_of l))) (drop-drop n i s ∙ ap (λ (k : ℕ). drop k s) (sym e))
    ∙ byte-is at h in
    sym
    (ap msb_num (pad-add (8 * n) 8 bits)
    ∙ msb_num-append (pad (8 * n) bits) (pad 8 (drop (8 * n) bits))
    ∙ rw (length-pad 8 (drop (8 * n) bits), last, ← q))

pub read-four : {s : List ℕ} (i : ℕ) {b0 b1 b2 b3 : ℕ}
    → ByteAt s i b0 → ByteAt s (i + 1) b1 → ByteAt s (i + 2) b2 → ByteAt s (i + 3) b3
    → ((b0 * 256 + b1) * 256 + b2) * 256 + b3 ≡ msb_num (pad 32 (msb_bits_of (drop i s)))
read-four i h0 h1 h2 h3 =
    number_more i 3 (i + 3) refl h3 (number_more i 2 (i + 2) refl h2 (number_more i 1 (i + 1) refl h1 (sym (byte-is i h0))))

-- ---- bits that leave through the top
module _ (k m : ℕ) (b : List ℕ) (bits : Below 2 b) (long : length b ≡ k + m) where
  rest_lt : msb_num (drop k b) * 2 ^ k < 2 ^ (k + m)
  rest_lt =
      let e : length (drop k b) ≡ m = length-drop k b ∙ (omega arith) in
      subst (λ (j : ℕ). msb_num (drop k b) * 2 ^ k < 2 ^ j) (add_comm m k)
      (shl_lt m k (subst (λ (j : ℕ). msb_num (drop k b) < 2 ^ j) e (msb_num-lt (drop k b) (below-drop k b bits))))

  parts : msb_num b * 2 ^ k ≡ msb_num (take k b) * 2 ^ (k + m) + msb_num (drop k b) * 2 ^ k
  parts =
      let e : length (drop k b) ≡ m = length-drop k b ∙ (omega arith) in
      ap (λ (l : List ℕ). msb_num l * 2 ^ k) (sym (take-append-drop k b))
      ∙ ap (◌* 2 ^ k) (msb_num-append (take k b) (drop k b) ∙ ap (λ (j : ℕ). msb_num (take k b) * 2 ^ j + msb_num (drop k b)) e)
      ∙ add-mul (msb_num (take k b) * 2 ^ m) (msb_num (drop k b)) (2 ^ k)
      ∙ ap (◌+ msb_num (drop k b) * 2 ^ k)
      (mul_assoc (msb_num (take k b)) (2 ^ m) (2 ^ k)
      ∙ ap (msb_num (take k b) *◌) (sym (pow-add 2 m k) ∙ ap (2 ^◌) (add_comm m k)))

  out-low : msb_num b * 2 ^ k % 2 ^ (k + m) ≡ msb_num (drop k b) * 2 ^ k
  out-low = ap (◌% 2 ^ (k + m)) parts ∙ low (msb_num (take k b)) (k + m) rest_lt

  out-high : msb_num b * 2 ^ k / 2 ^ (k + m) ≡ msb_num (take k b)
  out-high = ap (◌/ 2 ^ (k + m)) parts ∙ high (msb_num (take k b)) (k + m) rest_lt

-- the n bits after the first r of b
field_out : (r n m : ℕ) (b : List ℕ) → Below 2 b → length b ≡ r + (n + m)
    → msb_num b * 2 ^ r % 2 ^ (r + (n + m)) * 2 ^ n / 2 ^ (r + (n + m)) ≡ msb_num (take n (drop r b))
field_out r n m b bits long =
    let c : List ℕ = drop r b in
    let e : length c ≡ n + m = length-drop r b ∙ (omega arith) in
    let power : 2 ^ (r + (n + m)) ≡ 2 ^ (n + m) * 2 ^ r = ap (2 ^◌) (add_comm r (n + m)) ∙ pow-add 2 (n + m) r in
    ap (λ (k : ℕ). k * 2 ^ n / 2 ^ (r + (n + m))) (out-low r (n + m) b bits long)
    ∙ ap (◌/ 2 ^ (r + (n + m))) (mul_right_comm (msb_num c) (2 ^ r) (2 ^ n))
    ∙ ap (λ (k : ℕ). msb_num c * 2 ^ n * 2 ^ r / k) power
    ∙ mul-div-mul_right {m = 2 ^ r} (msb_num c * 2 ^ n) (2 ^ (n + m)) (pow_pos r)
    ∙ out-high n m c (below-drop r b bits) e

-- ---- a field of bits out of four bytes
pub four-lt : (b : List ℕ) → Below 2 b → msb_num (pad 32 b) < 2 ^ 32
four-lt b bits = subst (λ (k : ℕ). msb_num (pad 32 b) < 2 ^ k) (length-pad 32 b) (msb_num-lt (pad 32 b) (below-pad 32 b bits))

module _ (s : List ℕ) (at n : ℕ) (few : n < 24) (there : at + n ≤ 8 * length s) where
  abbrev bits : List ℕ
  bits = msb_bits_of (drop (at / 8) s)

  field-bits : take n (drop (at % 8) (pad 32 bits)) ≡ take n (drop at (msb_bits_of s))
  field-bits =
      let place : 8 * (at / 8) + at % 8 ≡ at = omega arith in
      let from : drop (at % 8) bits ≡ drop at (msb_bits_of s) =
      ap (drop (at % 8)) (msb_bits_of-drop (at / 8) s)
      ∙ drop-drop (at % 8) (8 * (at / 8)) (msb_bits_of s)
      ∙ ap (λ (k : ℕ). drop k (msb_bits_of s)) place in
      let enough : n ≤ length (drop at (msb_bits_of s)) = rw (length-drop at (msb_bits_of s), length-msb_bits_of s) (omega arith) in
      ap (take n) (drop-pad (at % 8) 32 bits (omega arith))
      ∙ take-pad n (32 - at % 8) (drop (at % 8) bits) (omega arith)
      ∙ ap (pad n) from
      ∙ pad-short n (drop at (msb_bits_of s)) enough

  pub field-of-four : (v : ℕ) → v ≡ msb_num (pad 32 bits)
      → ((v * 2 ^ (at % 8) + 0) % 4294967296 * 2 ^ n + 0) / 4294967296 ≡ msb_num (take n (drop at (msb_bits_of s)))
  field-of-four v q =
      let r : ℕ = at % 8 in
      let m : ℕ = 32 - r - n in
      let width : r + (n + m) ≡ 32 = omega arith in
      let long : length (pad 32 bits) ≡ r + (n + m) = length-pad 32 bits ∙ sym width in
      let below : Below 2 (pad 32 bits) = below-pad 32 bits (below-msb_bits_of (drop (at / 8) s)) in
      rw (add-zero (v * 2 ^ r), add-zero (v * 2 ^ r % 4294967296 * 2 ^ n), q)
      (subst (λ (k : ℕ). msb_num (pad 32 bits) * 2 ^ r % 2 ^ k * 2 ^ n / 2 ^ k ≡ msb_num (take n (drop r (pad 32 bits)))) width
      (field_out r n m (pad 32 bits) below long)
      ∙ ap msb_num field-bits)

-- ---- whether bits are there: in whole bytes and in bits
pub lacks : (len at n : ℕ) → ltb len ((at + n + 7) / 8) ≡ ltb (8 * len) (at + n)
lacks len at n = by-test (dec_lt (8 * len) (at + n))
  where
    by-test : Dec (8 * len < at + n) → ltb len ((at + n + 7) / 8) ≡ ltb (8 * len) (at + n)
    by-test (yes h) = lt-ltb len ((at + n + 7) / 8) (omega arith) ∙ sym (lt-ltb (8 * len) (at + n) h)
    by-test (no h) = le-ltb len ((at + n + 7) / 8) (omega arith) ∙ sym (le-ltb (8 * len) (at + n) (omega arith))
