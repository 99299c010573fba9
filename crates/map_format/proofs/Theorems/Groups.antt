-- Groups: what is written is read, and what a reading that is done says of writing. Assumes nothing.
use Rattle.std.specs.Prelude.{ℕ, zero, suc, ◌*◌, ◌^◌, ◌≤◌, ◌<◌, ◌≡◌, refl, length, take, drop}
use Rattle.std.proofs.Common.{arith, ◌∙◌, length-drop, take-append-drop, length-take-le}
use Rattle.std.proofs.Math.Path.{sym, ap}
use mathlib.Core.List.{List, [], ◌∷◌, ◌++◌, append_assoc}
use Rattle.std.proofs.Math.ListN.{replicate}
use borrow.Author.Tests.{le-ltb}
use Rattle.bitstream.specs.Bits.{Below}
use Rattle.bitstream.specs.Bits.Laws.{below-take, below-drop}
use Rattle.bitstream.specs.Msb.{msb_digits}
use Rattle.map_format.specs.Reading.{got, Code, zeros, one, two, direct, sum, photon, dark, read_body, read_group, read_groups}
use Rattle.map_format.specs.Reading.Laws.{read_field-digits, sum-zero}
use Rattle.map_format.specs.Writing.{pixels_bits, group_bits, groups_bits}
use Rattle.map_format.specs.Writing.Laws.{positions-one, positions-two, by-photons, group_bits-zeros, group_bits-direct, group_bits-at}
use Rattle.map_format.specs.Writing.Laws.{group_bits-both}
use Rattle.map_format.specs.Choice.{code_bits}
use Rattle.map_format.proofs.Theorems.Pixels.{read_pixels-own, read_code-own}

-- ---- a group is read as it was written
pub read_group-code : (k : ℕ) (c : Code) (r : List ℕ) → read_group k (code_bits c ++ r) ≡ read_body k c r
unfolding read_group
read_group-code k c r = rw (read_code-own c r)

module _ (k : ℕ) (xs r : List ℕ) (size : length xs ≡ 2 ^ k) where
  begun : {p : List ℕ} → group_bits k xs ≡ p → read_group k (group_bits k xs ++ r) ≡ read_group k (p ++ r)
  begun e = ap (λ (l : List ℕ). read_group k (l ++ r)) e

  own-zeros : sum xs ≡ 0 → read_group k (group_bits k xs ++ r) ≡ got xs r
  unfolding read_body
  own-zeros e =
      begun (group_bits-zeros k xs e) ∙ read_group-code k zeros r
      ∙ ap (λ (l : List ℕ). got l r) (sym (sum-zero xs e ∙ ap (λ (n : ℕ). replicate n 0) size))

  own-one : sum xs ≡ 1 → read_group k (group_bits k xs ++ r) ≡ got xs r
  unfolding read_body
  own-one e =
      let o = positions-one 0 xs e in
      let group : photon o.at (dark k) ≡ xs = sym (o.group ∙ ap (λ (n : ℕ). photon o.at (replicate n 0)) size) in
      begun (group_bits-at k xs o.at e o.only) ∙ read_group-code k one (msb_digits k o.at ++ r)
      ∙ rw (read_field-digits k o.at r (rw size at o.within), group)

  own-two : sum xs ≡ 2 → read_group k (group_bits k xs ++ r) ≡ got xs r
  unfolding read_body
  own-two e =
      let t = positions-two 0 xs e in
      let p = t.first in
      let q = t.second in
      let group : photon q (photon p (dark k)) ≡ xs = sym (t.group ∙ ap (λ (n : ℕ). photon q (photon p (replicate n 0))) size) in
      let high : q < 2 ^ k = rw size at t.within in
      let low : p < 2 ^ k = omega (arith, t.order) in
      begun (group_bits-both k xs p q e t.both)
      ∙ ap (λ (l : List ℕ). read_group k (code_bits two ++ l)) (append_assoc (msb_digits k p) (msb_digits k q) r)
      ∙ read_group-code k two (msb_digits k p ++ (msb_digits k q ++ r))
      ∙ rw (read_field-digits k p (msb_digits k q ++ r) low, read_field-digits k q r high, group)

  own-direct : Below 65536 xs → 3 ≤ sum xs → read_group k (group_bits k xs ++ r) ≡ got xs r
  unfolding read_body
  own-direct low h =
      begun (group_bits-direct k xs h) ∙ read_group-code k direct (pixels_bits xs ++ r)
      ∙ rw (← size) (rw (read_pixels-own xs r low, le-ltb (sum xs) 3 h))

pub read_group-own : (k : ℕ) (xs r : List ℕ) → length xs ≡ 2 ^ k → Below 65536 xs → read_group k (group_bits k xs ++ r) ≡ got xs r
read_group-own k xs r size low =
    by-photons (sum xs) (own-zeros k xs r size) (own-one k xs r size) (own-two k xs r size) (own-direct k xs r size low)

pub read_groups-own : (k n : ℕ) (xs r : List ℕ) → length xs ≡ n * 2 ^ k → Below 65536 xs
    → read_groups k n (groups_bits k n xs ++ r) ≡ got xs r
unfolding read_groups groups_bits
read_groups-own k zero [] r size low = refl
read_groups-own k zero (x ∷ xs) r size low = absurd (omega arith)
read_groups-own k (suc n) xs r size low =
    let g = take (2 ^ k) xs in
    let ys = drop (2 ^ k) xs in
    rw (
      append_assoc (group_bits k g) (groups_bits k n ys) r,
      read_group-own k g (groups_bits k n ys ++ r) (length-take-le (2 ^ k) xs (omega arith)) (below-take (2 ^ k) xs low),
      read_groups-own k n ys r (length-drop (2 ^ k) xs ∙ (omega arith)) (below-drop (2 ^ k) xs low),
      take-append-drop (2 ^ k) xs,
    )
