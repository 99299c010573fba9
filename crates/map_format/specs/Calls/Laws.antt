-- The laws of maps. Assumes nothing.
use Rattle.std.specs.Prelude.{ℕ, ◌+◌, ◌-◌, ◌*◌, ◌/◌, ◌^◌, ◌≤◌, ◌≡◌, List, ◌++◌, length, take, replicate, eqb}
use Rattle.std.proofs.Common.{arith, sym, ap, ◌∙◌, append_assoc, pow-add}
use Rattle.bitstream.specs.Bits.{Below, bits_of, halves_of}
use Rattle.bitstream.specs.Bits.Laws.{pad-all, length_cut, below-cut, below-flat}
use Rattle.bitstream.specs.Msb.{msb_bits_of, msb_bytes_of, bytes_for}
use Rattle.bitstream.specs.Msb.Laws.{msb_bits_of-append, msb_bits_of-bytes, length-msb_bytes_of}
use Rattle.row_format.specs.Lists.Laws.{by-test}
use Rattle.row_format.specs.Row.{pixel_bytes}
use Rattle.row_format.proofs.Theorems.Words.{bytes_of-halves_of}
use Rattle.map_format.specs.Writing.Laws.{below-groups_bits}
use Rattle.map_format.specs.Calls.{position_bits, map_groups, map_bits, map_bytes}

-- ---- sizes
-- the groups of a map have its 16384 pixels
pub map-pixels : (k : ℕ) → k ≤ 14 → map_groups k * 2 ^ k ≡ 16384
map-pixels k h =
    let all : 14 - k + k ≡ 14 = omega arith in
    sym (pow-add 2 (14 - k) k) ∙ ap (2 ^◌) all

pub position_bits-most : (g : ℕ) → position_bits g ≤ 14
position_bits-most g = by-test (eqb g 4) (λ e. rw e (omega arith)) (λ e. rw e (omega arith))

-- ---- a map's bits and bytes
pub below-map_bits : (k : ℕ) (xs : List ℕ) → Below 2 (map_bits k xs)
unfolding map_bits
below-map_bits k xs = below-groups_bits k (map_groups k) xs

pub length-map_bytes : (k : ℕ) (xs : List ℕ) → length (map_bytes k xs) ≡ bytes_for (length (map_bits k xs))
unfolding map_bytes
length-map_bytes k xs = length-msb_bytes_of (bytes_for (length (map_bits k xs))) (map_bits k xs)

-- the spare bits of the last byte
abbrev pub spare : ℕ → List ℕ
spare n = replicate (8 * bytes_for n - n) 0

pub msb_bits_of-map_bytes : (k : ℕ) (xs s : List ℕ)
    → msb_bits_of (map_bytes k xs ++ s) ≡ map_bits k xs ++ (spare (length (map_bits k xs)) ++ msb_bits_of s)
unfolding map_bytes
msb_bits_of-map_bytes k xs s =
    let b = map_bits k xs in
    let n = bytes_for (length b) in
    msb_bits_of-append (msb_bytes_of n b) s
    ∙ ap (◌++ msb_bits_of s) (msb_bits_of-bytes n b (below-map_bits k xs) ∙ pad-all (8 * n) b (omega arith))
    ∙ append_assoc b (spare (length b)) (msb_bits_of s)

-- ---- counts in bytes
module _ (s : List ℕ) (size : length s / 2 ≡ 16384) where
  pub length-halves_of : length (halves_of s) ≡ 16384
  length-halves_of = length_cut 16 (length s / 2) (bits_of s) ∙ size

  -- they come back as the bytes they were, but for half a count at the end
  pub pixel_bytes-halves_of : Below 256 s → pixel_bytes (halves_of s) ≡ take 32768 s
  pixel_bytes-halves_of bytes = bytes_of-halves_of s bytes ∙ ap (λ (n : ℕ). take (2 * n) s) length-halves_of

pub below-halves_of : (s : List ℕ) → Below 65536 (halves_of s)
below-halves_of s = below-cut 16 (length s / 2) (bits_of s) (below-flat 8 s)
