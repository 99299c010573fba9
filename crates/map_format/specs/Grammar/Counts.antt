-- The counts that bits stand for: how many they are, and that none and no sum of them is too large. Assumes nothing.
use Rattle.std.specs.Prelude.{ℕ, zero, suc, ◌*◌, ◌^◌, ◌≤◌, ◌<◌, ◌≡◌, refl, List, [], ◌∷◌, length, replicate}
use Rattle.std.proofs.Common.{suc-mul, zero-mul, arith, ap, ◌∙◌, length-append}
use Rattle.std.proofs.lemmas.List.{length-replicate}
use Rattle.bitstream.specs.Bits.{Below}
use Rattle.bitstream.specs.Bits.Laws.{below-nil, below-cons, below-head, below-tail, below-append}
use Rattle.map_format.specs.Reading.{sum, photon, dark}
use Rattle.map_format.specs.Reading.Laws.{length-photon}
use Rattle.map_format.specs.Grammar.{PixelCode, small, middle, wide, PixelsCode, no-pixel, pixel, GroupCode, no-photon, one-photon}
use Rattle.map_format.specs.Grammar.{two-photons, three-or-more, GroupsCode, no-group, group}

-- ---- photons
below_up : {c : ℕ} (d : ℕ) (xs : List ℕ) → c ≤ d → Below c xs → Below d xs
below_up d xs h low = record { below = λ i. omega (arith, low.below i) }

below-photon : {c : ℕ} (p : ℕ) (xs : List ℕ) → Below c xs → Below (suc c) (photon p xs)
unfolding photon
below-photon {c} p [] low = below-nil (omega arith)
below-photon {c} zero (x ∷ xs) low =
    below-cons (omega (arith, below-head low)) (below_up (suc c) xs (omega arith) (below-tail low))
below-photon {c} (suc p) (x ∷ xs) low = below-cons (omega (arith, below-head low)) (below-photon p xs (below-tail low))

below-zeros : (n : ℕ) → Below 1 (replicate n 0)
below-zeros zero = below-nil (omega arith)
below-zeros (suc n) = below-cons (omega arith) (below-zeros n)

-- ---- how many
pixels-length : {n : ℕ} {xs p : List ℕ} → PixelsCode n xs p → length xs ≡ n
pixels-length no-pixel = refl
pixels-length (pixel first rest) = ap suc (pixels-length rest)

group-length : {k : ℕ} {xs p : List ℕ} → GroupCode k xs p → length xs ≡ 2 ^ k
group-length {k} no-photon = length-replicate (2 ^ k) 0
group-length {k} (one-photon n h) = length-photon n (dark k) ∙ length-replicate (2 ^ k) 0
group-length {k} (two-photons n m h g) =
    length-photon m (photon n (dark k)) ∙ length-photon n (dark k) ∙ length-replicate (2 ^ k) 0
group-length (three-or-more xs p codes h) = pixels-length codes

pub groups-length : {k n : ℕ} {xs p : List ℕ} → GroupsCode k n xs p → length xs ≡ n * 2 ^ k
groups-length {k} no-group = rw (zero-mul (2 ^ k))
groups-length {k} (group {n = n} {xs = xs} {ys = ys} first rest) =
    rw (suc-mul n (2 ^ k)) (omega (arith, length-append xs ys, group-length first, groups-length rest))

-- ---- each has sixteen bits
pixel-below : {x : ℕ} {p : List ℕ} → PixelCode x p → x < 65536
pixel-below (small x h) = omega arith
pixel-below (middle f h) = omega arith
pixel-below (wide x above h) = h

pixels-below : {n : ℕ} {xs p : List ℕ} → PixelsCode n xs p → Below 65536 xs
pixels-below no-pixel = below-nil (omega arith)
pixels-below (pixel first rest) = below-cons (pixel-below first) (pixels-below rest)

group-below : {k : ℕ} {xs p : List ℕ} → GroupCode k xs p → Below 65536 xs
group-below {k} no-photon = below_up 65536 (dark k) (omega arith) (below-zeros (2 ^ k))
group-below {k} (one-photon n h) =
    below_up 65536 (photon n (dark k)) (omega arith) (below-photon n (dark k) (below-zeros (2 ^ k)))
group-below {k} (two-photons n m h g) =
    below_up 65536 (photon m (photon n (dark k))) (omega arith)
    (below-photon m (photon n (dark k)) (below-photon n (dark k) (below-zeros (2 ^ k))))
group-below (three-or-more xs p codes h) = pixels-below codes

pub groups-below : {k n : ℕ} {xs p : List ℕ} → GroupsCode k n xs p → Below 65536 xs
groups-below no-group = below-nil (omega arith)
groups-below (group {xs = xs} {ys = ys} first rest) = below-append xs ys (group-below first) (groups-below rest)

-- ---- and so their sum
pub sum-most : (xs : List ℕ) → Below 65536 xs → sum xs ≤ 65535 * length xs
unfolding sum
sum-most [] low = omega arith
sum-most (x ∷ xs) low = omega (arith, below-head low, sum-most xs (below-tail low))
