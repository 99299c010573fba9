-- The laws of the writer of bit strings, the most significant bit first: its register and the words that it stores. Assumes nothing.
use Prim.Native.Nat.{ℕ, zero, suc, ◌+◌, ◌-◌, ◌*◌, ◌/◌, ◌%◌, ◌^◌, ◌≤◌, ◌<◌}
use native.Mathlib.Nat.{add-zero, add_comm, mod-lt, zero-div, div-one}
use native.Mathlib.Omega.{arith}
use mathlib.Core.Path.{◌≡◌, refl, sym, ap, ◌∙◌, subst}
use mathlib.Core.List.{List, [], ◌∷◌, ◌++◌, append_assoc, append-nil}
use lib.ListN.{length, take}
use lib.Seq.{drop_at}
use lib.Pow.{pow_pos}
use Rattle.bitstream.specs.Bits.{pad}
use Rattle.bitstream.specs.Bits.Laws.{above-lt, pad-at, pad-append, pad-whole}
use Rattle.bitstream.specs.Memory.{overwritten}
use Rattle.bitstream.specs.Memory.Laws.{take-overwritten}
use Rattle.bitstream.specs.Msb.{msb_digits, msb_bits_of, msb_bytes_of}
use Rattle.bitstream.specs.Msb.Laws.{
  length-msb_digits,
  below-msb_digits,
  msb_digits-split,
  msb_digits-low,
  msb_digits-mod,
  msb_digits-join,
  msb_num-digits,
  msb_bits_of-append,
  msb_bits_of-bytes,
  length-msb_bytes_of,
}
use Rattle.bitstream.specs.MsbWriter.{msb_held, MsbReady, MsbPut, MsbClosable, MsbFinished}
use Rattle.bitstream.specs.MsbWriter.Laws.{length-stored}
use Rattle.bitstream.specs.declared.msb_writer.MsbWriter.{MsbWriter}

-- ---- the bytes of a number, the highest first
bytes-split : (n k v : ℕ) → msb_bytes_of (suc n) (msb_digits (8 + k) v) ≡ v / 2 ^ k % 256 ∷ msb_bytes_of n (msb_digits k v)
unfolding msb_bytes_of
bytes-split n k v =
    let first : List ℕ = msb_digits 8 (v / 2 ^ k) in
    let long : length first ≡ 8 = length-msb_digits 8 (v / 2 ^ k) in
    rw (msb_digits-split 8 k v, pad-at first (msb_digits k v) 8 long, drop_at first (msb_digits k v) 8 long) (rw (msb_num-digits 8 (v / 2 ^ k)))

pub four_bytes_lem : (v : ℕ) → msb_bytes_of 4 (msb_digits 32 v) ≡ v / 16777216 % 256 ∷ v / 65536 % 256 ∷ v / 256 % 256 ∷ v % 256 ∷ []
four_bytes_lem v =
    bytes-split 3 24 v
    ∙ ap (v / 16777216 % 256 ∷◌) (bytes-split 2 16 v
    ∙ ap (v / 65536 % 256 ∷◌) (bytes-split 1 8 v
    ∙ ap (v / 256 % 256 ∷◌) (bytes-split 0 0 v ∙ unfold msb_bytes_of in ap (λ (k : ℕ). k % 256 ∷ []) (div-one v))))

-- ---- a stored word
word-bits : (v : ℕ) → msb_bits_of (msb_bytes_of 4 (msb_digits 32 v)) ≡ msb_digits 32 v
word-bits v = msb_bits_of-bytes 4 (msb_digits 32 v) (below-msb_digits 32 v) ∙ pad-whole 32 (msb_digits 32 v) (length-msb_digits 32 v)

module _ (out : List ℕ) (words v : ℕ) (fits : 4 * words + 4 ≤ length out) where
  abbrev stored : List ℕ
  stored = msb_bytes_of 4 (msb_digits 32 v)

  place : 4 * words + length stored ≡ 4 * (words + 1)
  place = rw (length-msb_bytes_of 4 (msb_digits 32 v)) (omega arith)

  stored-bits : msb_bits_of (take (4 * (words + 1)) (overwritten out (4 * words) stored)) ≡ msb_bits_of (take (4 * words) out) ++ msb_digits 32 v
  stored-bits =
      ap msb_bits_of
      (ap (λ (k : ℕ). take k (overwritten out (4 * words) stored)) (sym place) ∙ take-overwritten out (4 * words) stored (omega arith))
      ∙ msb_bits_of-append (take (4 * words) out) stored
      ∙ ap (msb_bits_of (take (4 * words) out) ++◌) (word-bits v)

-- ---- the ways out of `put`
module _ (out : List ℕ) (w : MsbWriter) (v n : ℕ) (ready : MsbReady out w n) (hv : v < 2 ^ n) where
  abbrev reg : ℕ
  reg = w.acc * 2 ^ n + v

  held_more : msb_held out w ++ msb_digits n v ≡ msb_bits_of (take (4 * w.words) out) ++ msb_digits (w.count + n) reg
  held_more =
      append_assoc (msb_bits_of (take (4 * w.words) out)) (msb_digits w.count w.acc) (msb_digits n v)
      ∙ ap (msb_bits_of (take (4 * w.words) out) ++◌) (msb_digits-join w.count n w.acc v hv)

  -- the register still has room
  pub put-kept : w.count + n < 32 → MsbPut out w v n out (record { words = w.words; count = w.count + n; acc = reg })
  put-kept h =
      let small : reg < 2 ^ (w.count + n) =
      subst (λ (k : ℕ). reg < 2 ^ k) (add_comm n w.count) (above-lt n w.count w.acc v hv ready.good.low) in
      record { bits = sym held_more; good = record { few = h; low = small }; size = refl }

  -- a word is stored
  pub put-stored : 32 ≤ w.count + n
      → let k : ℕ = w.count + n - 32 in
      MsbPut out w v n (overwritten out (4 * w.words) (msb_bytes_of 4 (msb_digits 32 (reg / 2 ^ k % 2 ^ 32))))
      (record { words = w.words + 1; count = k; acc = reg % 2 ^ 32 % 2 ^ k })
  put-stored h =
      let fits : 4 * w.words + 4 ≤ length out = omega arith in
      let k : ℕ = w.count + n - 32 in
      let few : k < 32 = omega arith in
      let whole : 32 + k ≡ w.count + n = omega arith in
      let front : List ℕ = msb_bits_of (take (4 * w.words) out) in
      let kept : msb_digits k (reg % 2 ^ 32 % 2 ^ k) ≡ msb_digits k reg =
      msb_digits-mod k (reg % 2 ^ 32) ∙ msb_digits-low k 32 reg (omega arith) in
      record {
        bits =
            ap (◌++ msb_digits k (reg % 2 ^ 32 % 2 ^ k))
            (stored-bits out w.words (reg / 2 ^ k % 2 ^ 32) fits ∙ ap (front ++◌) (msb_digits-mod 32 (reg / 2 ^ k)))
            ∙ append_assoc front (msb_digits 32 (reg / 2 ^ k)) (msb_digits k (reg % 2 ^ 32 % 2 ^ k))
            ∙ ap (front ++◌)
            (ap (msb_digits 32 (reg / 2 ^ k) ++◌) kept ∙ sym (msb_digits-split 32 k reg) ∙ ap (λ (m : ℕ). msb_digits m reg) whole)
            ∙ sym held_more;
        good = record { few = few; low = mod-lt (reg % 2 ^ 32) (pow_pos k) };
        size = omega arith;
      }

-- ---- the ways out of `finish`
zeros : (m : ℕ) → msb_digits m 0 ≡ pad m []
unfolding msb_digits
zeros zero = refl
zeros (suc m) = rw (zero-div (2 ^ m)) (ap (0 ∷◌) (zeros m))

-- n bits of v and m zeros after them
pub shifted-pad : (n m v : ℕ) → msb_digits (n + m) (v * 2 ^ m + 0) ≡ pad (n + m) (msb_digits n v)
shifted-pad n m v =
    sym (msb_digits-join n m v 0 (pow_pos m))
    ∙ ap (msb_digits n v ++◌) (zeros m)
    ∙ sym (pad-append (msb_digits n v) [] m)
    ∙ ap (pad (length (msb_digits n v) + m)) (append-nil (msb_digits n v))
    ∙ ap (λ (k : ℕ). pad (k + m) (msb_digits n v)) (length-msb_digits n v)

module _ (out : List ℕ) (w : MsbWriter) (c : MsbClosable out w) where
  front-bits : length (msb_bits_of (take (4 * w.words) out)) ≡ 32 * w.words
  front-bits = length-stored out w.words (omega arith)

  padded : (n : ℕ) → pad (32 * w.words + n) (msb_held out w)
      ≡ msb_bits_of (take (4 * w.words) out) ++ pad n (msb_digits w.count w.acc)
  padded n = rw (← front-bits) (pad-append (msb_bits_of (take (4 * w.words) out)) (msb_digits w.count w.acc) n)

  -- nothing is left in the register
  pub finish-whole : w.count ≡ 0 → MsbFinished out w out
  finish-whole e =
      let words : (32 * w.words + w.count + 31) / 32 ≡ w.words = omega arith in
      record {
        front =
            rw words
            (sym
            (ap (λ (k : ℕ). pad k (msb_held out w)) (sym (add-zero (32 * w.words)))
            ∙ padded 0
            ∙ append-nil (msb_bits_of (take (4 * w.words) out))));
      }

  -- the last word is stored
  pub finish-stored : (w.count ≡ 0 → ⊥)
      → MsbFinished out w
      (overwritten out (4 * w.words) (msb_bytes_of 4 (msb_digits 32 ((w.acc * 2 ^ (32 - w.count) + 0) % 2 ^ 32))))
  finish-stored e =
      let fits : 4 * w.words + 4 ≤ length out = omega arith in
      let words : (32 * w.words + w.count + 31) / 32 ≡ w.words + 1 = omega arith in
      let whole : 32 * (w.words + 1) ≡ 32 * w.words + 32 = omega arith in
      let last : ℕ = w.acc * 2 ^ (32 - w.count) + 0 in
      let width : w.count + (32 - w.count) ≡ 32 = omega arith in
      let bits : msb_digits 32 last ≡ pad 32 (msb_digits w.count w.acc) =
      ap (λ (k : ℕ). msb_digits k last) (sym width)
      ∙ shifted-pad w.count (32 - w.count) w.acc
      ∙ ap (λ (k : ℕ). pad k (msb_digits w.count w.acc)) width in
      record {
        front =
            rw words
            (stored-bits out w.words (last % 2 ^ 32) fits
            ∙ ap (msb_bits_of (take (4 * w.words) out) ++◌) (msb_digits-mod 32 last ∙ bits)
            ∙ sym (ap (λ (k : ℕ). pad k (msb_held out w)) whole ∙ padded 32));
      }
