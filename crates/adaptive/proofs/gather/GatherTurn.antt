-- What a turn of gather does to the number being gathered. Assumes nothing.
use Prim.Native.Nat.{ℕ, suc, ◌+◌, ◌-◌, ◌*◌, ◌%◌, ◌^◌, ◌≤◌, ◌<◌, zero-le}
use native.Mathlib.Nat.{pow-suc, pow-succ', mul_assoc, add_assoc, zero-add, add-mul, zero-mul, mod-lt}
use native.Mathlib.Numerals.{add-one}
use native.Mathlib.Omega.{arith}
use mathlib.Core.Path.{◌≡◌, refl, sym, ap, ◌∙◌}
use mathlib.Core.List.{List, [], ◌∷◌}
use lib.ListN.{length, drop, get_or, drop_of_length-le}
use lib.Seq.{drop-cons}
use lib.Dec.{lit<}
use lib.Arith.{digits_lt}
use Rattle.adaptive.specs.Number.{NumberFront, whole, fault, NumberReading, accepted, byte_before, front, data_of}
use Rattle.adaptive.specs.Number.Laws.{front-more, front-last}
use Rattle.adaptive.specs.Gather.{gathered_of}
use Rattle.adaptive.specs.declared.gather.Data.{Data}

-- the answer where i bytes with the data bits d stand before a front
abbrev pub after : ℕ → ℕ → NumberFront → NumberReading Data
after d i (whole bs) =
    accepted (record { raw = d * 128 ^ length bs + data_of bs; span = 128 ^ (i + length bs) }) (i + length bs)
after d i (fault e) = gathered_of (fault e)

after_none : (f : NumberFront) → gathered_of f ≡ after 0 0 f
after_none (whole bs) = rw (zero-mul (128 ^ length bs), zero-add (data_of bs), zero-add (length bs))
after_none (fault e) = refl

after_more : (d i b : ℕ) (f : NumberFront) → after d i (byte_before b f) ≡ after (d * 128 + b % 128) (i + 1) f
unfolding data_of
after_more d i b (whole bs) =
    let n = length bs in
    let raw : d * 128 ^ suc n + (b % 128 * 128 ^ n + data_of bs) ≡ (d * 128 + b % 128) * 128 ^ n + data_of bs =
    rw (pow-succ' 128 n, ← mul_assoc d 128 (128 ^ n), add-mul (d * 128) (b % 128) (128 ^ n))
    (sym (add_assoc (d * 128 * 128 ^ n) (b % 128 * 128 ^ n) (data_of bs))) in
    let used : i + suc n ≡ i + 1 + n = omega arith in
    rw (raw, used)
after_more d i b (fault e) = refl

-- i bytes and one more, which is the last
abbrev pub ended : ℕ → ℕ → ℕ → ℕ → NumberReading Data
ended d span i b = accepted (record { raw = d * 128 + b % 128; span = span * 128 }) (i + 1)

after_last : (d i b : ℕ) → after d i (whole (b ∷ [])) ≡ ended d (128 ^ i) i b
unfolding data_of
after_last d i b =
    let raw : d * 128 + (b % 128 * 1 + 0) ≡ d * 128 + b % 128 = omega arith in
    let span : 128 ^ (i + 1) ≡ 128 ^ i * 128 = rw (add-one i) (pow-suc 128 i) in
    rw (raw, span)

-- ---- the loop's state: i bytes taken, all of which another follows
pub record Taken (s : List ℕ) (d span i : ℕ) : Type 0 where
  pub most : i ≤ 5
  pub there : i ≤ length s
  pub power : span ≡ 128 ^ i
  pub below : d < span
  pub left : gathered_of (front 5 s) ≡ after d i (front (5 - i) (drop i s))

pub taken_none_lem : (s : List ℕ) → Taken s 0 1 0
taken_none_lem s = record { most = zero-le; there = zero-le; power = refl; below = lit< tt; left = after_none (front 5 s) }

-- the next byte
next : (s : List ℕ) (i : ℕ) → i < 5 → i < length s
    → front (5 - i) (drop i s) ≡ front (suc (5 - (i + 1))) (get_or s i 0 ∷ drop (i + 1) s)
next s i h g =
    let left : 5 - i ≡ suc (5 - (i + 1)) = omega arith in
    rw (left, drop-cons s i 0 g, add-one i)

module _ {s : List ℕ} {d span i : ℕ} (t : Taken s d span i) where
  -- another byte follows
  pub taken_more : i < 5 → i < length s → 128 ≤ get_or s i 0
      → Taken s (d * 128 + get_or s i 0 % 128) (span * 128) (i + 1)
  taken_more h g b =
      let rest = front (5 - (i + 1)) (drop (i + 1) s) in
      let turn : front (5 - i) (drop i s) ≡ byte_before (get_or s i 0) rest =
      next s i h g ∙ front-more (5 - (i + 1)) (get_or s i 0) (drop (i + 1) s) b in
      record {
        most = omega arith;
        there = omega arith;
        power = rw (t.power, add-one i, pow-suc 128 i);
        below = digits_lt t.below (mod-lt (get_or s i 0) (lit< tt));
        left = t.left ∙ ap (after d i) turn ∙ after_more d i (get_or s i 0) rest;
      }

  -- the last byte
  pub taken-last : i < 5 → i < length s → get_or s i 0 < 128 → ended d span i (get_or s i 0) ≡ gathered_of (front 5 s)
  taken-last h g b =
      let turn : front (5 - i) (drop i s) ≡ whole (get_or s i 0 ∷ []) =
      next s i h g ∙ front-last (5 - (i + 1)) (get_or s i 0) (drop (i + 1) s) b in
      rw t.power (sym (t.left ∙ ap (after d i) turn ∙ after_last d i (get_or s i 0)))

  -- the bytes end
  pub taken-short : i < 5 → length s ≤ i → gathered_of (fault 12) ≡ gathered_of (front 5 s)
  unfolding front
  taken-short h g =
      let left : 5 - i ≡ suc (4 - i) = omega arith in
      let none : front (5 - i) (drop i s) ≡ fault 12 = rw (left, drop_of_length-le s g) in
      sym (t.left ∙ ap (after d i) none)

  -- a fifth byte asks for a sixth
  pub taken-over : 5 ≤ i → gathered_of (fault 13) ≡ gathered_of (front 5 s)
  unfolding front
  taken-over h =
      let left : 5 - i ≡ 0 = omega arith in
      let none : front (5 - i) (drop i s) ≡ fault 13 = rw left in
      sym (t.left ∙ ap (after d i) none)
