-- The most and the least bits of a map. Assumes nothing.
use Rattle.std.specs.Prelude.{ℕ, zero, suc, ◌+◌, ◌-◌, ◌*◌, ◌^◌, ◌≤◌, ◌<◌, ◌≡◌, refl, List, [], ◌∷◌, ◌++◌, length, take, drop, ltb}
use Rattle.std.proofs.Common.{arith, ap, ◌∙◌, length-append, length-take, length-drop, take-append-drop, length-take-le, get_or-take, get_or-drop, pow_pos, ltb-true, ltb-false}
use Rattle.std.proofs.Math.Path.{sym}
use Rattle.bitstream.specs.Msb.{msb_digits}
use Rattle.bitstream.specs.Msb.Laws.{length-msb_digits}
use Rattle.row_format.specs.Lists.Laws.{by-test}
use Rattle.map_format.specs.Reading.{sum}
use Rattle.map_format.specs.Reading.Laws.{sum-append}
use Rattle.map_format.specs.Reading.Ample.{above_power}
use Rattle.map_format.specs.Writing.{pixel_bits, pixels_bits, positions, positions_bits, group_bits, groups_bits}
use Rattle.map_format.specs.Writing.Laws.{pixel_bits-two, pixel_bits-four, pixel_bits-sixteen, length-positions, by-photons}
use Rattle.map_format.specs.Writing.Laws.{group_bits-zeros, group_bits-one, group_bits-two, group_bits-direct}
use Rattle.map_format.specs.Choice.{Wide, Sparse}
use Rattle.map_format.specs.Calls.{map_groups, map_bits}
use Rattle.map_format.specs.Calls.Laws.{map-pixels}

-- ---- pixels
length_two : (a b : ℕ) (v w : ℕ) → length (msb_digits a v ++ msb_digits b w) ≡ a + b
length_two a b v w = length-append (msb_digits a v) (msb_digits b w) ∙ rw (length-msb_digits a v, length-msb_digits b w)

-- 22 bits for a pixel above 17
pub pixel-wide : (x : ℕ) → 17 < x → length (pixel_bits x) ≡ 22
pixel-wide x h =
    rw (pixel_bits-sixteen x h)
    (length-append (msb_digits 2 3) (msb_digits 4 15 ++ msb_digits 16 x) ∙ rw (length-msb_digits 2 3, length_two 4 16 15 x))

-- and never more
pub pixel-most : (x : ℕ) → length (pixel_bits x) ≤ 22
pixel-most x =
    by-test (ltb x 3)
    (λ few. rw (pixel_bits-two x (ltb-true x 3 few), length-msb_digits 2 x) (omega arith))
    (λ more. by-test (ltb x 18)
    (λ low. rw (pixel_bits-four x (ltb-false x 3 more) (ltb-true x 18 low), length_two 2 4 3 (x - 3)) (omega arith))
    (λ high. rw (pixel-wide x (ltb-false x 18 high)) (omega arith)))

pixels-most : (xs : List ℕ) → length (pixels_bits xs) ≤ 22 * length xs
unfolding pixels_bits
pixels-most [] = omega arith
pixels-most (x ∷ xs) = omega (arith, length-append (pixel_bits x) (pixels_bits xs), pixel-most x, pixels-most xs)

pixels-wide : (xs : List ℕ) → Wide xs → length (pixels_bits xs) ≡ 22 * length xs
unfolding pixels_bits
pixels-wide [] h = refl
pixels-wide (x ∷ xs) h =
    let rest = pixels-wide xs (λ i g. h (suc i) (omega arith)) in
    omega (arith, length-append (pixel_bits x) (pixels_bits xs), pixel-wide x (h 0 (omega arith)), rest)

-- ---- groups
length-positions_bits : (k : ℕ) (ps : List ℕ) → length (positions_bits k ps) ≡ length ps * k
unfolding positions_bits
length-positions_bits k [] = omega arith
length-positions_bits k (p ∷ ps) =
    omega (arith, length-append (msb_digits k p) (positions_bits k ps), length-msb_digits k p, length-positions_bits k ps)

-- one bit, and k + 1 for each photon, where they are at most two
pub group-few : (k : ℕ) (xs : List ℕ) → sum xs ≤ 2 → length (group_bits k xs) ≡ 1 + sum xs * (k + 1)
group-few k xs h =
    let places : length (positions_bits k (positions 0 xs)) ≡ sum xs * k =
    length-positions_bits k (positions 0 xs) ∙ ap (◌* k) (length-positions 0 xs) in
    by-photons (sum xs)
    (λ e. ap length (group_bits-zeros k xs e) ∙ rw e (omega arith))
    (λ e. ap length (group_bits-one k xs e) ∙ rw e (omega (arith, rw e at places)))
    (λ e. ap length (group_bits-two k xs e) ∙ rw e (omega (arith, rw e at places)))
    (λ g. absurd (omega arith))

pub group-more : (k : ℕ) (xs : List ℕ) → 3 ≤ sum xs → length (group_bits k xs) ≡ 3 + length (pixels_bits xs)
group-more k xs h = ap length (group_bits-direct k xs h) ∙ (omega arith)

pub group-most : (k : ℕ) (xs : List ℕ) → length xs ≤ 2 ^ k → length (group_bits k xs) ≤ 3 + 22 * 2 ^ k
group-most k xs size =
    let small = above_power k in
    by-photons (sum xs)
    (λ e. omega (arith, rw e at (group-few k xs (omega arith))))
    (λ e. omega (arith, rw e at (group-few k xs (omega arith))))
    (λ e. omega (arith, rw e at (group-few k xs (omega arith))))
    (λ h. omega (arith, group-more k xs h, pixels-most xs))

pub group-least : (k : ℕ) (xs : List ℕ) → 1 ≤ length (group_bits k xs)
group-least k xs =
    by-photons (sum xs)
    (λ e. omega (arith, group-few k xs (omega arith)))
    (λ e. omega (arith, rw e at (group-few k xs (omega arith))))
    (λ e. omega (arith, rw e at (group-few k xs (omega arith))))
    (λ h. omega (arith, group-more k xs h))

first-wide : (xs : List ℕ) → 0 < length xs → Wide xs → 17 < sum xs
unfolding sum
first-wide [] some h = absurd (omega arith)
first-wide (x ∷ xs) some h = let first = h 0 some in omega arith

pub group-wide : (k : ℕ) (xs : List ℕ) → length xs ≡ 2 ^ k → Wide xs → length (group_bits k xs) ≡ 3 + 22 * 2 ^ k
group-wide k xs size h =
    let some = pow_pos k in
    let much = first-wide xs (omega arith) h in
    omega (arith, group-more k xs (omega arith), pixels-wide xs h)

-- ---- n groups
groups-most : (k n : ℕ) (xs : List ℕ) → length (groups_bits k n xs) ≤ n * (3 + 22 * 2 ^ k)
unfolding groups_bits
groups-most k zero xs = omega arith
groups-most k (suc n) xs =
    let g = take (2 ^ k) xs in
    let ys = drop (2 ^ k) xs in
    let size : length g ≤ 2 ^ k = rw (length-take (2 ^ k) xs) (omega arith) in
    omega (arith, length-append (group_bits k g) (groups_bits k n ys), group-most k g size, groups-most k n ys)

groups-least : (k n : ℕ) (xs : List ℕ) → n ≤ length (groups_bits k n xs)
unfolding groups_bits
groups-least k zero xs = omega arith
groups-least k (suc n) xs =
    let g = take (2 ^ k) xs in
    let ys = drop (2 ^ k) xs in
    omega (arith, length-append (group_bits k g) (groups_bits k n ys), group-least k g, groups-least k n ys)

groups-wide : (k n : ℕ) (xs : List ℕ) → length xs ≡ n * 2 ^ k → Wide xs → length (groups_bits k n xs) ≡ n * (3 + 22 * 2 ^ k)
unfolding groups_bits
groups-wide k zero xs size h = omega arith
groups-wide k (suc n) xs size h =
    let g = take (2 ^ k) xs in
    let ys = drop (2 ^ k) xs in
    let group : length g ≡ 2 ^ k = length-take-le (2 ^ k) xs (omega arith) in
    let rest : length ys ≡ n * 2 ^ k = length-drop (2 ^ k) xs ∙ (omega arith) in
    let front : Wide g = λ i l. rw (get_or-take (2 ^ k) xs i 0 (omega arith)) (h i (omega arith)) in
    let back : Wide ys = λ i l. rw (get_or-drop (2 ^ k) xs i 0) (h (2 ^ k + i) (omega arith)) in
    omega (arith, length-append (group_bits k g) (groups_bits k n ys), group-wide k g group front, groups-wide k n ys rest back)

-- the photons of a group and of those after it
sum-parts : (n : ℕ) (xs : List ℕ) → sum (take n xs) + sum (drop n xs) ≡ sum xs
sum-parts n xs = sym (sum-append (take n xs) (drop n xs)) ∙ ap sum (take-append-drop n xs)

groups-few : (k n : ℕ) (xs : List ℕ) → length xs ≡ n * 2 ^ k → Sparse k n xs
    → length (groups_bits k n xs) ≡ n + sum xs * (k + 1)
unfolding groups_bits sum
groups-few k zero [] size h = omega arith
groups-few k zero (x ∷ xs) size h = absurd (omega arith)
groups-few k (suc n) xs size h =
    let g = take (2 ^ k) xs in
    let ys = drop (2 ^ k) xs in
    let rest : length ys ≡ n * 2 ^ k = length-drop (2 ^ k) xs ∙ (omega arith) in
    let photons : sum xs * (k + 1) ≡ sum g * (k + 1) + sum ys * (k + 1) =
    ap (◌* (k + 1)) (sym (sum-parts (2 ^ k) xs)) ∙ (omega arith) in
    omega (arith, length-append (group_bits k g) (groups_bits k n ys), group-few k g h.0, groups-few k n ys rest h.1, photons)

sparse-few : (k n : ℕ) (xs : List ℕ) → sum xs ≤ 2 → Sparse k n xs
sparse-few k zero xs h = tt
sparse-few k (suc n) xs h =
    let parts = sum-parts (2 ^ k) xs in
    (omega arith, sparse-few k n (drop (2 ^ k) xs) (omega arith))

-- ---- maps
module _ (k : ℕ) (xs : List ℕ) where
  pub map-most : length (map_bits k xs) ≤ map_groups k * (3 + 22 * 2 ^ k)
  unfolding map_bits
  map-most = groups-most k (map_groups k) xs

  pub map-least : map_groups k ≤ length (map_bits k xs)
  unfolding map_bits
  map-least = groups-least k (map_groups k) xs

  -- of counts above 17 alone: just that
  pub map-wide : k ≤ 14 → length xs ≡ 16384 → Wide xs → length (map_bits k xs) ≡ map_groups k * (3 + 22 * 2 ^ k)
  unfolding map_bits
  map-wide h size wide = groups-wide k (map_groups k) xs (size ∙ sym (map-pixels k h)) wide

  -- of at most two photons in a group: a bit for each group, and k + 1 for each photon
  pub map-few : k ≤ 14 → length xs ≡ 16384 → Sparse k (map_groups k) xs → length (map_bits k xs) ≡ map_groups k + sum xs * (k + 1)
  unfolding map_bits
  map-few h size few = groups-few k (map_groups k) xs (size ∙ sym (map-pixels k h)) few

  pub map-dark : k ≤ 14 → length xs ≡ 16384 → sum xs ≡ 0 → length (map_bits k xs) ≡ map_groups k
  map-dark h size none =
      map-few h size (sparse-few k (map_groups k) xs (omega arith)) ∙ rw none (omega arith)
