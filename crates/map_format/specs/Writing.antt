-- Document 02's ticket 3, "A written form is wanted too, choosing the first of the four codes that fits and the lower position
-- first": the bits of pixels, groups and maps. k is the bits of a position. Definitions only; their laws are in Writing/. Assumes
-- nothing.
use Rattle.std.specs.Prelude.{ℕ, zero, suc, ◌-◌, ◌^◌, cond, List, [], ◌∷◌, ◌++◌, take, drop, replicate, ltb}
use Rattle.bitstream.specs.Msb.{msb_digits}
use Rattle.map_format.specs.Reading.{sum}
pub mod Laws

-- ---- a pixel by itself: two bits for 0, 1 and 2; 11 and four bits for 3 to 17; 111111 and sixteen for those above
unfoldable pub pixel_bits : ℕ → List ℕ
pixel_bits x =
    cond (ltb x 3) (msb_digits 2 x)
    (cond (ltb x 18) (msb_digits 2 3 ++ msb_digits 4 (x - 3))
    (msb_digits 6 63 ++ msb_digits 16 x))

unfoldable pub pixels_bits : List ℕ → List ℕ
pixels_bits [] = []
pixels_bits (x ∷ xs) = pixel_bits x ++ pixels_bits xs

-- ---- the positions of a group's photons, the lower first, from pixel i on
unfoldable pub positions : ℕ → List ℕ → List ℕ
positions i [] = []
positions i (x ∷ xs) = replicate x i ++ positions (suc i) xs

unfoldable pub positions_bits : ℕ → List ℕ → List ℕ
positions_bits k [] = []
positions_bits k (p ∷ ps) = msb_digits k p ++ positions_bits k ps

-- ---- a group by the first of the four codes that fits: 1 for no photon, 01 for one, 001 for two, 000 for three and more
abbrev pub bits_by_sum : ℕ → ℕ → List ℕ → List ℕ
bits_by_sum k zero xs = 1 ∷ []
bits_by_sum k (suc zero) xs = 0 ∷ 1 ∷ positions_bits k (positions 0 xs)
bits_by_sum k (suc (suc zero)) xs = 0 ∷ 0 ∷ 1 ∷ positions_bits k (positions 0 xs)
bits_by_sum k (suc (suc (suc n))) xs = 0 ∷ 0 ∷ 0 ∷ pixels_bits xs

unfoldable pub group_bits : ℕ → List ℕ → List ℕ
group_bits k xs = bits_by_sum k (sum xs) xs

-- n groups of 2 ^ k pixels, one after the other
unfoldable pub groups_bits : ℕ → ℕ → List ℕ → List ℕ
groups_bits k zero xs = []
groups_bits k (suc n) xs = group_bits k (take (2 ^ k) xs) ++ groups_bits k n (drop (2 ^ k) xs)
