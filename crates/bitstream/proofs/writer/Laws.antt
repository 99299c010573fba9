-- The laws of the writer of bit strings: its register and the words that it stores. Assumes nothing.
use Prim.Native.Nat.{ℕ, ◌+◌, ◌-◌, ◌*◌, ◌/◌, ◌%◌, ◌^◌, ◌≤◌, ◌<◌}
use native.Mathlib.Nat.{add-zero, mod-eq_of_lt}
use native.Mathlib.Omega.{arith}
use mathlib.Core.Path.{◌≡◌, refl, sym, ap, ◌∙◌, subst}
use mathlib.Core.List.{List, ◌++◌, append_assoc, append-nil}
use lib.ListN.{length, take, drop}
use lib.Seq.{length-take-le}
use lib.Pow.{shr_lt}
use Rattle.bitstream.specs.Bits.{digits, bits_of, bytes_of, pad}
use Rattle.bitstream.specs.Bits.Laws.{
  digits-split,
  digits-join,
  above-lt,
  digits_mod,
  digits-pad,
  below-digits,
  num_of-digits,
  flat_append,
  flat-cut,
  length-flat,
  length_cut,
  pad-append,
}
use Rattle.bitstream.specs.Memory.{overwritten}
use Rattle.bitstream.specs.Memory.Laws.{take-overwritten, drop-overwritten}
use Rattle.bitstream.specs.Writer.{held_bits, Ready, FieldPut, Closable, Finished}
use Rattle.bitstream.specs.declared.writer.Writer.{Writer}

-- ---- a stored word
pub pad-digits : (w v : ℕ) → pad w (digits w v) ≡ digits w v
pad-digits w v = sym (digits-pad w (digits w v) (below-digits w v)) ∙ ap (digits w) (num_of-digits w v) ∙ digits_mod w v

word-bits : (v : ℕ) → bits_of (bytes_of 4 (digits 32 v)) ≡ digits 32 v
word-bits v = flat-cut 8 4 (digits 32 v) (below-digits 32 v) ∙ pad-digits 32 v

module _ (out : List ℕ) (words v : ℕ) (fits : 4 * words + 4 ≤ length out) where
  place : 4 * words + length (bytes_of 4 (digits 32 v)) ≡ 4 * (words + 1)
  place = rw (length_cut 8 4 (digits 32 v)) (omega arith)

  stored-bits : bits_of (take (4 * (words + 1)) (overwritten out (4 * words) (bytes_of 4 (digits 32 v))))
      ≡ bits_of (take (4 * words) out) ++ digits 32 v
  stored-bits =
      ap bits_of
      (ap (λ (k : ℕ). take k (overwritten out (4 * words) (bytes_of 4 (digits 32 v)))) (sym place)
      ∙ take-overwritten out (4 * words) (bytes_of 4 (digits 32 v)) (omega arith))
      ∙ flat_append 8 (take (4 * words) out) (bytes_of 4 (digits 32 v))
      ∙ ap (bits_of (take (4 * words) out) ++◌) (word-bits v)

  stored-rest : drop (4 * (words + 1)) (overwritten out (4 * words) (bytes_of 4 (digits 32 v))) ≡ drop (4 * (words + 1)) out
  stored-rest = rw (← place) (drop-overwritten out (4 * words) (bytes_of 4 (digits 32 v)) (omega arith))

-- ---- the ways out of `put`
module _ (out : List ℕ) (w : Writer) (v n : ℕ) (ready : Ready out w n) (hv : v < 2 ^ n) where
  abbrev reg : ℕ
  reg = v * 2 ^ w.count + w.acc

  held_bits-more : held_bits out w ++ digits n v ≡ bits_of (take (4 * w.words) out) ++ digits (w.count + n) reg
  held_bits-more =
      append_assoc (bits_of (take (4 * w.words) out)) (digits w.count w.acc) (digits n v)
      ∙ ap (bits_of (take (4 * w.words) out) ++◌) (digits-join w.count n v w.acc ready.good.low)

  -- the register still has room
  pub put-kept : w.count + n < 32 → FieldPut out w v n out (record { words = w.words; count = w.count + n; acc = reg })
  put-kept h =
      record {
        bits = sym held_bits-more;
        good = record { few = h; low = above-lt w.count n v w.acc ready.good.low hv };
        size = refl;
        rest = refl;
      }

  -- a word is stored
  pub put-stored : 32 ≤ w.count + n
      → FieldPut out w v n (overwritten out (4 * w.words) (bytes_of 4 (digits 32 (reg % 2 ^ 32))))
      (record { words = w.words + 1; count = w.count + n - 32; acc = reg / 2 ^ 32 })
  put-stored h =
      let fits : 4 * w.words + 4 ≤ length out = omega arith in
      let k : ℕ = w.count + n - 32 in
      let whole : 32 + k ≡ w.count + n = omega arith in
      let whole' : k + 32 ≡ w.count + n = omega arith in
      let front : List ℕ = bits_of (take (4 * w.words) out) in
      record {
        bits =
            ap (◌++ digits k (reg / 2 ^ 32)) (stored-bits out w.words (reg % 2 ^ 32) fits ∙ ap (front ++◌) (digits_mod 32 reg))
            ∙ append_assoc front (digits 32 reg) (digits k (reg / 2 ^ 32))
            ∙ ap (front ++◌) (sym (digits-split 32 k reg) ∙ ap (λ (m : ℕ). digits m reg) whole)
            ∙ sym held_bits-more;
        good = record {
          few = omega arith;
          low = shr_lt k 32 (subst (λ (m : ℕ). reg < 2 ^ m) (sym whole') (above-lt w.count n v w.acc ready.good.low hv));
        };
        size = omega arith;
        rest = stored-rest out w.words (reg % 2 ^ 32) fits;
      }

-- ---- the ways out of `finish`
module _ (out : List ℕ) (w : Writer) (c : Closable out w) where
  front-bits : length (bits_of (take (4 * w.words) out)) ≡ 32 * w.words
  front-bits =
      let h : 4 * w.words ≤ length out = omega arith in
      length-flat 8 (take (4 * w.words) out) ∙ ap (8 *◌) (length-take-le (4 * w.words) out h) ∙ (omega arith)

  padded : (n : ℕ) → pad (32 * w.words + n) (held_bits out w) ≡ bits_of (take (4 * w.words) out) ++ pad n (digits w.count w.acc)
  padded n = rw (← front-bits) (pad-append (bits_of (take (4 * w.words) out)) (digits w.count w.acc) n)

  -- nothing is left in the register
  pub finish-whole : w.count ≡ 0 → Finished out w out w.words
  finish-whole e =
      record {
        count = omega arith;
        front =
            sym
            (ap (λ (k : ℕ). pad k (held_bits out w)) (sym (add-zero (32 * w.words)))
            ∙ padded 0
            ∙ append-nil (bits_of (take (4 * w.words) out)));
        rest = refl;
      }

  -- the last word is stored
  pub finish-stored : (w.count ≡ 0 → ⊥)
      → Finished out w (overwritten out (4 * w.words) (bytes_of 4 (digits 32 (w.acc % 2 ^ 32)))) (w.words + 1)
  finish-stored e =
      let fits : 4 * w.words + 4 ≤ length out = omega arith in
      let whole : 32 * (w.words + 1) ≡ 32 * w.words + 32 = omega arith in
      record {
        count = omega arith;
        front =
            stored-bits out w.words (w.acc % 2 ^ 32) fits
            ∙ ap (bits_of (take (4 * w.words) out) ++◌)
            (digits_mod 32 w.acc ∙ ap (digits 32) (sym (mod-eq_of_lt c.good.low) ∙ sym (num_of-digits w.count w.acc))
            ∙ digits-pad 32 (digits w.count w.acc) (below-digits w.count w.acc))
            ∙ sym (ap (λ (k : ℕ). pad k (held_bits out w)) whole ∙ padded 32);
        rest = stored-rest out w.words (w.acc % 2 ^ 32) fits;
      }
