-- The laws of bits in bytes, the most significant first. Assumes nothing.
use Rattle.std.specs.Prelude.{ℕ, zero, suc, ◌+◌, ◌-◌, ◌*◌, ◌/◌, ◌%◌, ◌^◌, ◌≤◌, ◌<◌, ◌≡◌, refl, List, [], ◌∷◌, ◌++◌, length, take, drop}
use native.Mathlib.Nat.{
  zero-add,
  add_comm,
  add_assoc,
  add-mul,
  suc-add,
  mul_assoc,
  mul_comm,
  mul-suc,
  mod-eq_of_lt,
  mod-lt,
  mod-one,
  pow-suc,
}
use Rattle.std.proofs.Common.{arith, sym, ap, ◌∙◌, append_assoc, append-nil, length-append, take-take, drop_at, length-take-le, shr-shr, pow-add}
use Rattle.std.proofs.Math.Seq.{take-nil, drop-nil, take-append-add, drop-append-add}
use Rattle.std.proofs.Math.Arith.{digits_lt}
use Rattle.std.proofs.Math.Pow.{high, low, field, mod-mod-pow}
use Rattle.std.proofs.lemmas.Nat.{mod-pow-add}
use Rattle.bitstream.specs.Bits.{Below, pad}
use Rattle.bitstream.specs.Bits.Laws.{
  below-nil,
  below-cons,
  below-head,
  below-tail,
  below-append,
  below-take,
  below-drop,
  pad-add,
  length-pad,
  below-pad,
  pad-at,
  take-pad,
}
use Rattle.bitstream.specs.Msb.{msb_digits, msb_num, msb_bits_of, msb_bytes_of}

-- ---- msb_digits: the low bits of a number
pub length-msb_digits : (w v : ℕ) → length (msb_digits w v) ≡ w
unfolding msb_digits
length-msb_digits zero v = refl
length-msb_digits (suc w) v = ap suc (length-msb_digits w v)

pub below-msb_digits : (w v : ℕ) → Below 2 (msb_digits w v)
unfolding msb_digits
below-msb_digits zero v = below-nil (omega arith)
below-msb_digits (suc w) v = below-cons (mod-lt (v / 2 ^ w) (omega arith)) (below-msb_digits w v)

pub msb_digits-split : (m n v : ℕ) → msb_digits (m + n) v ≡ msb_digits m (v / 2 ^ n) ++ msb_digits n v
unfolding msb_digits
msb_digits-split zero n v = rw (zero-add n)
msb_digits-split (suc m) n v =
    let top : v / 2 ^ (m + n) ≡ v / 2 ^ n / 2 ^ m = ap (λ (k : ℕ). v / 2 ^ k) (add_comm m n) ∙ sym (shr-shr v n m) in
    rw (suc-add m n, top) (ap (v / 2 ^ n / 2 ^ m % 2 ∷◌) (msb_digits-split m n v))

-- a bit below the highest of a remainder
bit-mod : (k w v : ℕ) → v % 2 ^ (suc k + w) / 2 ^ w % 2 ≡ v / 2 ^ w % 2
bit-mod k w v =
    ap (◌% 2) (field v (suc k) w)
    ∙ ap (λ (m : ℕ). v / 2 ^ w % 2 ^ m % 2) (sym (native.Mathlib.Numerals.add-one k))
    ∙ mod-mod-pow (v / 2 ^ w) k 1

msb_digits-mod-add : (k w v : ℕ) → msb_digits w (v % 2 ^ (k + w)) ≡ msb_digits w v
unfolding msb_digits
msb_digits-mod-add k zero v = refl
msb_digits-mod-add k (suc w) v =
    let e : k + suc w ≡ suc k + w = omega arith in
    rw (e, bit-mod k w v) (ap (v / 2 ^ w % 2 ∷◌) (msb_digits-mod-add (suc k) w v))

-- of a remainder by a power that is not below the bits asked
pub msb_digits-low : (w n v : ℕ) → w ≤ n → msb_digits w (v % 2 ^ n) ≡ msb_digits w v
msb_digits-low w n v h =
    let e : n ≡ n - w + w = omega arith in
    ap (λ (k : ℕ). msb_digits w (v % 2 ^ k)) e ∙ msb_digits-mod-add (n - w) w v

pub msb_digits-mod : (w v : ℕ) → msb_digits w (v % 2 ^ w) ≡ msb_digits w v
msb_digits-mod w v = msb_digits-low w w v (omega arith)

pub msb_digits-join : (m n q r : ℕ) → r < 2 ^ n → msb_digits m q ++ msb_digits n r ≡ msb_digits (m + n) (q * 2 ^ n + r)
msb_digits-join m n q r h =
    sym
    (msb_digits-split m n (q * 2 ^ n + r)
    ∙ ap (λ (k : ℕ). msb_digits m k ++ msb_digits n (q * 2 ^ n + r)) (high q n h)
    ∙ ap (msb_digits m q ++◌) (sym (msb_digits-mod n (q * 2 ^ n + r)) ∙ ap (msb_digits n) (low q n h)))

pub msb_num-digits : (w v : ℕ) → msb_num (msb_digits w v) ≡ v % 2 ^ w
unfolding msb_digits msb_num
msb_num-digits zero v = sym (mod-one v)
msb_num-digits (suc w) v =
    rw (length-msb_digits w v, msb_num-digits w v)
    (sym (ap (λ (k : ℕ). v % 2 ^ k) (sym (native.Mathlib.Numerals.one-add w)) ∙ mod-pow-add v 1 w))

-- ---- msb_num: the number of some bits
pub msb_num-append : (a b : List ℕ) → msb_num (a ++ b) ≡ msb_num a * 2 ^ length b + msb_num b
unfolding msb_num
msb_num-append [] b = sym (ap (◌+ msb_num b) (native.Mathlib.Nat.zero-mul (2 ^ length b)) ∙ zero-add (msb_num b))
msb_num-append (x ∷ a) b =
    rw (length-append a b, msb_num-append a b, pow-add 2 (length a) (length b), add-mul, mul_assoc, add_assoc)

pub msb_num-lt : (b : List ℕ) → Below 2 b → msb_num b < 2 ^ length b
unfolding msb_num
msb_num-lt [] h = omega arith
msb_num-lt (x ∷ b) h =
    rw (pow-suc 2 (length b), mul_comm (2 ^ length b) 2) (digits_lt (below-head h) (msb_num-lt b (below-tail h)))

pub msb_digits-num : (b : List ℕ) → Below 2 b → msb_digits (length b) (msb_num b) ≡ b
unfolding msb_digits msb_num
msb_digits-num [] h = refl
msb_digits-num (x ∷ b) h =
    let small : msb_num b < 2 ^ length b = msb_num-lt b (below-tail h) in
    let v : ℕ = x * 2 ^ length b + msb_num b in
    let rest : msb_digits (length b) v ≡ b =
    sym (msb_digits-mod (length b) v) ∙ ap (msb_digits (length b)) (low x (length b) small) ∙ msb_digits-num b (below-tail h) in
    let first : v / 2 ^ length b % 2 ≡ x = ap (◌% 2) (high x (length b) small) ∙ mod-eq_of_lt (below-head h) in
    rw (first, rest)

-- ---- msb_bits_of: the bits of bytes
eight-more : (n : ℕ) → 8 + 8 * n ≡ 8 * suc n
eight-more n = add_comm 8 (8 * n) ∙ sym (mul-suc 8 n)

pub length-msb_bits_of : (s : List ℕ) → length (msb_bits_of s) ≡ 8 * length s
unfolding msb_bits_of
length-msb_bits_of [] = refl
length-msb_bits_of (b ∷ s) =
    length-append (msb_digits 8 b) (msb_bits_of s) ∙ rw (length-msb_digits 8 b, length-msb_bits_of s) (eight-more (length s))

pub below-msb_bits_of : (s : List ℕ) → Below 2 (msb_bits_of s)
unfolding msb_bits_of
below-msb_bits_of [] = below-nil (omega arith)
below-msb_bits_of (b ∷ s) = below-append (msb_digits 8 b) (msb_bits_of s) (below-msb_digits 8 b) (below-msb_bits_of s)

pub msb_bits_of-append : (s t : List ℕ) → msb_bits_of (s ++ t) ≡ msb_bits_of s ++ msb_bits_of t
unfolding msb_bits_of
msb_bits_of-append [] t = refl
msb_bits_of-append (b ∷ s) t = rw (msb_bits_of-append s t) (sym (append_assoc (msb_digits 8 b) (msb_bits_of s) (msb_bits_of t)))

-- eight bits and those after them
byte-and : (b n : ℕ) → length (msb_digits 8 b) + 8 * n ≡ 8 * suc n
byte-and b n = ap (◌+ 8 * n) (length-msb_digits 8 b) ∙ eight-more n

pub msb_bits_of-take : (n : ℕ) (s : List ℕ) → msb_bits_of (take n s) ≡ take (8 * n) (msb_bits_of s)
unfolding msb_bits_of
msb_bits_of-take zero s = refl
msb_bits_of-take (suc n) [] = sym (take-nil (8 * suc n))
msb_bits_of-take (suc n) (b ∷ s) =
    ap (msb_digits 8 b ++◌) (msb_bits_of-take n s)
    ∙ sym (take-append-add (msb_digits 8 b) (msb_bits_of s) (8 * n))
    ∙ ap (λ (k : ℕ). take k (msb_digits 8 b ++ msb_bits_of s)) (byte-and b n)

pub msb_bits_of-drop : (n : ℕ) (s : List ℕ) → msb_bits_of (drop n s) ≡ drop (8 * n) (msb_bits_of s)
unfolding msb_bits_of
msb_bits_of-drop zero s = refl
msb_bits_of-drop (suc n) [] = sym (drop-nil (8 * suc n))
msb_bits_of-drop (suc n) (b ∷ s) =
    msb_bits_of-drop n s
    ∙ sym (drop-append-add (msb_digits 8 b) (msb_bits_of s) (8 * n))
    ∙ ap (λ (k : ℕ). drop k (msb_digits 8 b ++ msb_bits_of s)) (byte-and b n)

-- ---- msb_bytes_of: the bytes that hold some bits
pub length-msb_bytes_of : (n : ℕ) (b : List ℕ) → length (msb_bytes_of n b) ≡ n
unfolding msb_bytes_of
length-msb_bytes_of zero b = refl
length-msb_bytes_of (suc n) b = ap suc (length-msb_bytes_of n (drop 8 b))

-- bits put into bytes and taken out again
pub msb_bits_of-bytes : (n : ℕ) (b : List ℕ) → Below 2 b → msb_bits_of (msb_bytes_of n b) ≡ pad (8 * n) b
unfolding msb_bytes_of msb_bits_of
msb_bits_of-bytes zero b h = refl
msb_bits_of-bytes (suc n) b h =
    let first : msb_digits 8 (msb_num (pad 8 b)) ≡ pad 8 b =
    ap (λ (k : ℕ). msb_digits k (msb_num (pad 8 b))) (sym (length-pad 8 b)) ∙ msb_digits-num (pad 8 b) (below-pad 8 b h) in
    ap (◌++ msb_bits_of (msb_bytes_of n (drop 8 b))) first
    ∙ ap (pad 8 b ++◌) (msb_bits_of-bytes n (drop 8 b) (below-drop 8 b h))
    ∙ sym (pad-add 8 (8 * n) b)
    ∙ ap (λ (k : ℕ). pad k b) (eight-more n)

-- bytes come back, whatever follows
pub msb_bytes_of-bits : (s r : List ℕ) → Below 256 s → msb_bytes_of (length s) (msb_bits_of s ++ r) ≡ s
unfolding msb_bytes_of msb_bits_of
msb_bytes_of-bits [] r h = refl
msb_bytes_of-bits (b ∷ s) r h =
    let e : msb_digits 8 b ++ msb_bits_of s ++ r ≡ msb_digits 8 b ++ (msb_bits_of s ++ r) = append_assoc (msb_digits 8 b) (msb_bits_of s) r in
    let long : length (msb_digits 8 b) ≡ 8 = length-msb_digits 8 b in
    rw (e, pad-at (msb_digits 8 b) (msb_bits_of s ++ r) 8 long, drop_at (msb_digits 8 b) (msb_bits_of s ++ r) 8 long)
    (rw (msb_num-digits 8 b, mod-eq_of_lt (below-head h), msb_bytes_of-bits s r (below-tail h)))

-- n bytes depend on 8 * n bits
pub msb_bytes_of-pad : (n : ℕ) (b : List ℕ) → msb_bytes_of n (pad (8 * n) b) ≡ msb_bytes_of n b
unfolding msb_bytes_of
msb_bytes_of-pad zero b = refl
msb_bytes_of-pad (suc n) b =
    let e : pad (8 * suc n) b ≡ pad 8 b ++ pad (8 * n) (drop 8 b) =
    ap (λ (k : ℕ). pad k b) (sym (eight-more n)) ∙ pad-add 8 (8 * n) b in
    let long : length (pad 8 b) ≡ 8 = length-pad 8 b in
    let rest : List ℕ = pad (8 * n) (drop 8 b) in
    ap (λ (l : List ℕ). msb_num (pad 8 l) ∷ msb_bytes_of n (drop 8 l)) e
    ∙ ap (λ (l : List ℕ). msb_num l ∷ msb_bytes_of n (drop 8 (pad 8 b ++ rest))) (pad-at (pad 8 b) rest 8 long)
    ∙ ap (λ (l : List ℕ). msb_num (pad 8 b) ∷ msb_bytes_of n l) (drop_at (pad 8 b) rest 8 long)
    ∙ ap (msb_num (pad 8 b) ∷◌) (msb_bytes_of-pad n (drop 8 b))

-- memory whose first m words hold some bits and zeros: its first n bytes are those of the bits
pub front_bytes : (m n : ℕ) (out b : List ℕ) → Below 256 out → n ≤ 4 * m → 4 * m ≤ length out
    → msb_bits_of (take (4 * m) out) ≡ pad (32 * m) b → take n out ≡ msb_bytes_of n b
front_bytes m n out b bytes few fits front =
    let long : length (take n out) ≡ n = length-take-le n out (omega arith) in
    let less : 8 * n ≤ 32 * m = omega arith in
    let bits : msb_bits_of (take n out) ≡ pad (8 * n) b =
    ap msb_bits_of (sym (take-take n (4 * m) out few))
    ∙ msb_bits_of-take n (take (4 * m) out)
    ∙ ap (take (8 * n)) front
    ∙ take-pad (8 * n) (32 * m) b less in
    sym (msb_bytes_of-bits (take n out) [] (below-take n out bytes))
    ∙ ap (λ (k : ℕ). msb_bytes_of k (msb_bits_of (take n out) ++ [])) long
    ∙ ap (msb_bytes_of n) (append-nil (msb_bits_of (take n out)) ∙ bits)
    ∙ msb_bytes_of-pad n b
