-- The laws of numbers in memory: what a few bytes read one by one make. Assumes nothing.
use Rattle.std.specs.Prelude.{ℕ, zero, suc, ◌+◌, ◌*◌, ◌/◌, ◌%◌, ◌^◌, ◌≤◌, ◌<◌, ◌≡◌, refl, List, [], ◌∷◌, ◌++◌, length, take, drop, get_or}
use Rattle.std.proofs.Common.{mod-eq_of_lt, suc-add, zero-add, not-suc-le-zero, arith, sym, ap, ◌∙◌, length-append, length-drop, take_at, drop_at, take-add, take-take, drop-drop, length-take-le}
use Rattle.bitstream.specs.Bits.{num_of, flat, bits_of, number_of}
use Rattle.bitstream.specs.Bits.Laws.{num_of-append, number_of-suc, num_of-field, below-flat, length-flat, flat_append, flat-take, flat-drop}
use Rattle.bitstream.specs.Memory.{ByteAt, overwritten}

-- each byte that a slice has
pub byte_in : (s : List ℕ) → ((i : ℕ) → get_or s i 0 < 256) → (i : ℕ) → ByteAt s i (get_or s i 0)
byte_in s small i = record { value = refl; small = small i }

byte-mod : {s : List ℕ} {at b : ℕ} → ByteAt s at b → get_or s at 0 % 256 ≡ b
byte-mod h = ap (◌% 256) (sym h.value) ∙ mod-eq_of_lt h.small

-- ---- a number read a byte at a time, the highest first
number-last : {s : List ℕ} {at b : ℕ} → ByteAt s at b → b ≡ number_of (take 1 (drop at s))
number-last {s} {at} {b} h = sym (number_of-suc 0 at s ∙ unfold flat num_of in (zero-add (get_or s at 0 % 256) ∙ byte-mod h))

number_more : {s : List ℕ} (at next n : ℕ) {b v : ℕ} → next ≡ suc at → ByteAt s at b → v ≡ number_of (take n (drop next s))
    → v * 256 + b ≡ number_of (take (suc n) (drop at s))
number_more {s} at next n {b} {v} e h q =
    sym
    (number_of-suc n at s
    ∙ rw (byte-mod h) (ap (λ (k : ℕ). number_of (take n (drop k s)) * 256 + b) (sym e) ∙ ap (λ (k : ℕ). k * 256 + b) (sym q)))

pub read-two : {s : List ℕ} (at : ℕ) {b0 b1 : ℕ} → ByteAt s at b0 → ByteAt s (at + 1) b1 → b1 * 256 + b0 ≡ number_of (take 2 (drop at s))
read-two at h0 h1 = number_more at (at + 1) 1 (omega arith) h0 (number-last h1)

pub read-four : {s : List ℕ} (at : ℕ) {b0 b1 b2 b3 : ℕ}
    → ByteAt s at b0 → ByteAt s (at + 1) b1 → ByteAt s (at + 2) b2 → ByteAt s (at + 3) b3
    → ((b3 * 256 + b2) * 256 + b1) * 256 + b0 ≡ number_of (take 4 (drop at s))
read-four at h0 h1 h2 h3 =
    number_more at (at + 1) 3 (omega arith) h0
    (number_more (at + 1) (at + 2) 2 (omega arith) h1 (number_more (at + 2) (at + 3) 1 (omega arith) h2 (number-last h3)))

pub read-five : {s : List ℕ} (at : ℕ) {b0 b1 b2 b3 b4 : ℕ}
    → ByteAt s at b0 → ByteAt s (at + 1) b1 → ByteAt s (at + 2) b2 → ByteAt s (at + 3) b3 → ByteAt s (at + 4) b4
    → (((b4 * 256 + b3) * 256 + b2) * 256 + b1) * 256 + b0 ≡ number_of (take 5 (drop at s))
read-five at h0 h1 h2 h3 h4 =
    number_more at (at + 1) 4 (omega arith) h0
    (number_more (at + 1) (at + 2) 3 (omega arith) h1
    (number_more (at + 2) (at + 3) 2 (omega arith) h2 (number_more (at + 3) (at + 4) 1 (omega arith) h3 (number-last h4))))

-- the same as a number of four bytes and the fifth
pub read-four-one : {s : List ℕ} (at : ℕ) {low high : ℕ} → at + 4 < length s → low ≡ number_of (take 4 (drop at s)) → ByteAt s (at + 4) high
    → high * 4294967296 + low ≡ number_of (take 5 (drop at s))
read-four-one {s} at {low} {high} h is byte =
    let four : length (bits_of (take 4 (drop at s))) ≡ 32 =
    length-flat 8 (take 4 (drop at s)) ∙ ap (8 *◌) (length-take-le 4 (drop at s) (omega (arith, length-drop at s))) in
    let last : number_of (take 1 (drop 4 (drop at s))) ≡ high =
    ap (λ (l : List ℕ). number_of (take 1 l)) (drop-drop 4 at s) ∙ sym (number-last byte) in
    sym (ap number_of (take-add 4 1 (drop at s))
    ∙ ap num_of (flat_append 8 (take 4 (drop at s)) (take 1 (drop 4 (drop at s))))
    ∙ num_of-append (bits_of (take 4 (drop at s))) (bits_of (take 1 (drop 4 (drop at s))))
    ∙ rw (four, last, ← is))

-- ---- a field of bits out of five bytes
take-drop-take : (r n m : ℕ) (l : List ℕ) → r + n ≤ m → take n (drop r (take m l)) ≡ take n (drop r l)
take-drop-take zero n m l h = take-take n m l (omega arith)
take-drop-take (suc r) n zero l h = absurd (not-suc-le-zero (rw (suc-add r n) at h))
take-drop-take (suc r) n (suc m) [] h = refl
take-drop-take (suc r) n (suc m) (x ∷ l) h = take-drop-take r n m l (omega arith)

pub field-of-five : (s : List ℕ) (at v : ℕ) → v ≡ number_of (take 5 (drop (at / 8) s))
    → v / 2 ^ (at % 8) % 4294967296 ≡ num_of (take 32 (drop at (bits_of s)))
field-of-five s at v q =
    let bits : List ℕ = bits_of (take 5 (drop (at / 8) s)) in
    let five : bits ≡ take 40 (drop (8 * (at / 8)) (bits_of s)) = flat-take 8 5 (drop (at / 8) s) ∙ ap (take 40) (flat-drop 8 (at / 8) s) in
    let place : 8 * (at / 8) + at % 8 ≡ at = omega arith in
    let fits : at % 8 + 32 ≤ 40 = omega arith in
    ap (λ (k : ℕ). k / 2 ^ (at % 8) % 4294967296) q
    ∙ sym (num_of-field (at % 8) 32 bits (below-flat 8 (take 5 (drop (at / 8) s))))
    ∙ ap (λ (b : List ℕ). num_of (take 32 (drop (at % 8) b))) five
    ∙ ap num_of (take-drop-take (at % 8) 32 40 (drop (8 * (at / 8)) (bits_of s)) fits)
    ∙ ap (λ (b : List ℕ). num_of (take 32 b)) (drop-drop (at % 8) (8 * (at / 8)) (bits_of s))
    ∙ ap (λ (k : ℕ). num_of (take 32 (drop k (bits_of s)))) place

-- ---- memory with some bytes written over
front_length : (m : List ℕ) (at : ℕ) (b : List ℕ) → at ≤ length m → length (take at m ++ b) ≡ at + length b
front_length m at b h = length-append (take at m) b ∙ ap (◌+ length b) (length-take-le at m h)

pub take-overwritten : (m : List ℕ) (at : ℕ) (b : List ℕ) → at ≤ length m → take (at + length b) (overwritten m at b) ≡ take at m ++ b
take-overwritten m at b h = take_at (take at m ++ b) (drop (at + length b) m) (at + length b) (front_length m at b h)

pub drop-overwritten : (m : List ℕ) (at : ℕ) (b : List ℕ) → at ≤ length m
    → drop (at + length b) (overwritten m at b) ≡ drop (at + length b) m
drop-overwritten m at b h = drop_at (take at m ++ b) (drop (at + length b) m) (at + length b) (front_length m at b h)

pub length-overwritten : (m : List ℕ) (at : ℕ) (b : List ℕ) → at + length b ≤ length m → length (overwritten m at b) ≡ length m
length-overwritten m at b h =
    let at≤ : at ≤ length m = omega arith in
    length-append (take at m ++ b) (drop (at + length b) m)
    ∙ rw (front_length m at b at≤, length-drop (at + length b) m) (omega arith)
