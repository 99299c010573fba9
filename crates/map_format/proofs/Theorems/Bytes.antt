-- The most and the least bytes of a map, of groups of 4 and of 16 pixels, and the room that writing asks. Assumes nothing.
use Rattle.std.specs.Prelude.{ℕ, zero, suc, ◌*◌, ◌/◌, ◌≤◌, ◌<◌, ◌≡◌, refl, List, length, replicate}
use Rattle.std.proofs.Common.{arith, ap, ◌∙◌, inl, inr}
use Rattle.std.proofs.lemmas.List.{length-replicate, get_or-replicate}
use Rattle.answer.specs.Outcome.{refused}
use Rattle.bitstream.specs.Bits.{Below, flat, halves_of}
use Rattle.bitstream.specs.Bits.Laws.{below-nil, below-cons, length_cut, below-cut, below-flat}
use Rattle.bitstream.specs.Msb.{bytes_for}
use Rattle.row_format.specs.Row.{pixel_bytes}
use Rattle.row_format.proofs.Theorems.Words.{halves_of-bytes_of}
use Rattle.map_format.specs.Reading.{sum}
use Rattle.map_format.specs.Reading.Laws.{sum_zeros}
use Rattle.map_format.specs.Choice.{Wide}
use Rattle.map_format.specs.Calls.{position_bits, max_map_bytes, map_bytes, map_written}
use Rattle.map_format.specs.Calls.Laws.{length-map_bytes}
use Rattle.map_format.specs.Verdict.{GroupSize}
use Rattle.map_format.proofs.Verdict.Laws.{map_written-no-room, map_written-by}
use Rattle.map_format.proofs.Theorems.Bound.{map-most, map-least, map-wide, map-dark}

-- ---- bytes, of groups of 4 and of 16
module _ (xs : List ℕ) where
  pub bytes_most : (length (map_bytes 2 xs) ≤ 46592) × (length (map_bytes 4 xs) ≤ 45440)
  bytes_most = (
    rw (length-map_bytes 2 xs) (omega (arith, map-most 2 xs)),
    rw (length-map_bytes 4 xs) (omega (arith, map-most 4 xs)),
  )

  pub bytes-least : (512 ≤ length (map_bytes 2 xs)) × (128 ≤ length (map_bytes 4 xs))
  bytes-least = (
    rw (length-map_bytes 2 xs) (omega (arith, map-least 2 xs)),
    rw (length-map_bytes 4 xs) (omega (arith, map-least 4 xs)),
  )

  pub bytes-wide : length xs ≡ 16384 → Wide xs → (length (map_bytes 2 xs) ≡ 46592) × (length (map_bytes 4 xs) ≡ 45440)
  bytes-wide size wide = (
    length-map_bytes 2 xs ∙ ap bytes_for (map-wide 2 xs (omega arith) size wide),
    length-map_bytes 4 xs ∙ ap bytes_for (map-wide 4 xs (omega arith) size wide),
  )

  pub bytes-dark : length xs ≡ 16384 → sum xs ≡ 0 → (length (map_bytes 2 xs) ≡ 512) × (length (map_bytes 4 xs) ≡ 128)
  bytes-dark size none = (
    length-map_bytes 2 xs ∙ ap bytes_for (map-dark 2 xs (omega arith) size none),
    length-map_bytes 4 xs ∙ ap bytes_for (map-dark 4 xs (omega arith) size none),
  )

-- a map of n counts that are all x above 17, and one of n zeros
below-replicate : (k n x : ℕ) → x < k → Below k (replicate n x)
below-replicate k zero x h = below-nil (omega arith)
below-replicate k (suc n) x h = below-cons h (below-replicate k n x h)

bright : (n x : ℕ) → n ≡ 16384 → 17 < x → x < 65536
    → (xs : List ℕ) × (length xs ≡ 16384) × Below 65536 xs × (length (map_bytes 2 xs) ≡ 46592) × (length (map_bytes 4 xs) ≡ 45440)
bright n x e above low =
    let xs : List ℕ = replicate n x in
    let size : length xs ≡ 16384 = length-replicate n x ∙ e in
    let wide : Wide xs = λ i h. rw (get_or-replicate n i x 0 (rw (length-replicate n x) at h)) above in
    let (four, sixteen) = bytes-wide xs size wide in
    (xs, size, below-replicate 65536 n x low, four, sixteen)

blank : (n : ℕ) → n ≡ 16384
    → (xs : List ℕ) × (length xs ≡ 16384) × Below 65536 xs × (length (map_bytes 2 xs) ≡ 512) × (length (map_bytes 4 xs) ≡ 128)
blank n e =
    let xs : List ℕ = replicate n 0 in
    let size : length xs ≡ 16384 = length-replicate n 0 ∙ e in
    let (four, sixteen) = bytes-dark xs size (sum_zeros n) in
    (xs, size, below-replicate 65536 n 0 (omega arith), four, sixteen)

-- so the bounds are met
pub bytes-met : (xs : List ℕ) × (length xs ≡ 16384) × Below 65536 xs
    × (length (map_bytes 2 xs) ≡ 46592) × (length (map_bytes 4 xs) ≡ 45440)
bytes-met = bright 16384 65535 refl (omega arith) (omega arith)

pub bytes-met-least : (xs : List ℕ) × (length xs ≡ 16384) × Below 65536 xs
    × (length (map_bytes 2 xs) ≡ 512) × (length (map_bytes 4 xs) ≡ 128)
bytes-met-least = blank 16384 refl

-- ---- room for the call: enough, and no less is
module _ (g : ℕ) (xs : List ℕ) where
  size-most : GroupSize g → length (map_bytes (position_bits g) xs) ≤ max_map_bytes g
  size-most (inl e) = rw e (bytes_most xs).0
  size-most (inr e) = rw e (bytes_most xs).1

  size-met : GroupSize g → (length (map_bytes 2 xs) ≡ 46592) → (length (map_bytes 4 xs) ≡ 45440)
      → length (map_bytes (position_bits g) xs) ≡ max_map_bytes g
  size-met (inl e) four sixteen = rw e four
  size-met (inr e) four sixteen = rw e sixteen

pub map_written-room : (g : ℕ) (s m : List ℕ) → max_map_bytes g ≤ length m → (map_written g s m).answer.number ≡ 5 → ⊥
map_written-room g s m room =
    map_written-by g s m (λ o. o.answer.number ≡ 5 → ⊥) (λ h z. absurd (omega arith))
    (λ ok few z. absurd (omega (arith, size-most g (halves_of s) ok.size))) (λ ok h z. absurd (omega arith))

-- some 16384 counts are refused in any less
pub map_written-room-met : (g : ℕ) → GroupSize g → (s : List ℕ) × (length s ≡ 32768) × Below 256 s
    × ((m : List ℕ) → length m < max_map_bytes g → map_written g s m ≡ refused 5 m)
map_written-room-met g known =
    let (xs, size, low, four, sixteen) = bytes-met in
    let s = pixel_bytes xs in
    let long : length s ≡ 32768 = length_cut 8 (2 * length xs) (flat 16 xs) ∙ ap (2 *◌) size in
    let counts : halves_of s ≡ xs = halves_of-bytes_of (length xs) xs refl low in (
      s,
      long,
      below-cut 8 (2 * length xs) (flat 16 xs) (below-flat 16 xs),
      λ m few. map_written-no-room g s m (record { size = known; counts = ap (◌/ 2) long })
          (rw (counts, size-met g xs known four sixteen) few),
    )
