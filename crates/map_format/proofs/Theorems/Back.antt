-- Maps: what is written is read. One proof for every group size of at most 2 ^ 14 pixels; the calls have 4 and 16. Assumes nothing.
use Rattle.std.specs.Prelude.{ℕ, ◌-◌, ◌*◌, ◌≤◌, ◌<◌, ◌≡◌, refl, List, [], ◌++◌, length, take, drop, replicate}
use Rattle.std.proofs.Common.{arith, sym, ap, ◌∙◌, append-nil, length-append, take_at, eq-eqb}
use Rattle.std.proofs.Math.Seq.{drop-append_seam}
use Rattle.answer.specs.Outcome.{wrote}
use Rattle.bitstream.specs.Bits.{Below, halves_of}
use Rattle.bitstream.specs.Msb.{msb_bits_of, bytes_for}
use Rattle.bitstream.specs.Msb.Laws.{length-msb_bits_of}
use Rattle.row_format.specs.Row.{pixel_bytes}
use Rattle.map_format.specs.Reading.{got, sum}
use Rattle.map_format.specs.Calls.{position_bits, map_groups, read_map, map_left, map_read, map_bits, map_bytes, map_written}
use Rattle.map_format.specs.Calls.Laws.{map-pixels, position_bits-most, spare, msb_bits_of-map_bytes, length-halves_of}
use Rattle.map_format.specs.Calls.Laws.{pixel_bytes-halves_of, below-halves_of}
use Rattle.map_format.specs.Verdict.{GroupSize, MapWritable}
use Rattle.map_format.proofs.Verdict.Laws.{map_read-readable, map_written-got, map_written-done}
use Rattle.map_format.proofs.Theorems.Groups.{read_groups-own}

-- ---- bits and bytes
pub read_map-own : (k : ℕ) (xs r : List ℕ) → k ≤ 14 → length xs ≡ 16384 → Below 65536 xs
    → read_map k (sum xs) (map_bits k xs ++ r) ≡ got xs r
unfolding read_map map_bits
read_map-own k xs r h size low =
    rw (read_groups-own k (map_groups k) xs r (size ∙ sym (map-pixels k h)) low, eq-eqb (sum xs) (sum xs) refl)

module _ (k : ℕ) (xs rest : List ℕ) where
  read_map-map_bytes : k ≤ 14 → length xs ≡ 16384 → Below 65536 xs
      → read_map k (sum xs) (msb_bits_of (map_bytes k xs ++ rest)) ≡ got xs (spare (length (map_bits k xs)) ++ msb_bits_of rest)
  read_map-map_bytes h size low =
      rw (msb_bits_of-map_bytes k xs rest) (read_map-own k xs (spare (length (map_bits k xs)) ++ msb_bits_of rest) h size low)

  -- so what is left is what comes after the map's own bits
  pub read_map-bytes : k ≤ 14 → length xs ≡ 16384 → Below 65536 xs
      → let b = msb_bits_of (map_bytes k xs ++ rest) in
      read_map k (sum xs) b ≡ got xs (drop (length (map_bits k xs)) b)
  read_map-bytes h size low =
      let after = spare (length (map_bits k xs)) ++ msb_bits_of rest in
      read_map-map_bytes h size low
      ∙ ap (got xs) (sym (ap (drop (length (map_bits k xs))) (msb_bits_of-map_bytes k xs rest) ∙ drop-append_seam (map_bits k xs) after))

  -- the bits that this uses are those of the map
  used : 8 * length (map_bytes k xs ++ rest) - length (spare (length (map_bits k xs)) ++ msb_bits_of rest) ≡ length (map_bits k xs)
  used =
      let b = map_bits k xs in
      let after = spare (length b) ++ msb_bits_of rest in
      let all : 8 * length (map_bytes k xs ++ rest) ≡ length (b ++ after) =
      sym (length-msb_bits_of (map_bytes k xs ++ rest)) ∙ ap length (msb_bits_of-map_bytes k xs rest) in
      omega (arith, all, length-append b after)

nothing : msb_bits_of [] ≡ []
unfolding msb_bits_of
nothing = refl

-- "Spare bits of the last byte are written 0", and they are fewer than eight
pub spare-zeros : (k : ℕ) (xs : List ℕ)
    → let n = length (map_bits k xs) in
    (msb_bits_of (map_bytes k xs) ≡ map_bits k xs ++ replicate (8 * bytes_for n - n) 0) × (8 * bytes_for n - n < 8)
spare-zeros k xs =
    let b = map_bits k xs in (
      ap msb_bits_of (sym (append-nil (map_bytes k xs))) ∙ msb_bits_of-map_bytes k xs []
          ∙ ap (λ (l : List ℕ). b ++ (spare (length b) ++ l)) nothing ∙ ap (b ++◌) (append-nil (spare (length b))),
      omega arith,
    )

-- ---- the calls
module _ (g : ℕ) (known : GroupSize g) (xs rest m : List ℕ) where
  -- a map's bytes are read as the map, whatever bytes follow
  pub map_read-map_bytes : length xs ≡ 16384 → Below 65536 xs → 32768 ≤ length m
      → map_read g (map_bytes (position_bits g) xs ++ rest) (sum xs) m
      ≡ wrote (length (map_bits (position_bits g) xs)) (pixel_bytes xs) m
  map_read-map_bytes size low room =
      let k = position_bits g in
      map_read-readable g (map_bytes k xs ++ rest) (sum xs) m (record { size = known; room = room })
      ∙ ap (map_left (8 * length (map_bytes k xs ++ rest)) m) (read_map-map_bytes k xs rest (position_bits-most g) size low)
      ∙ ap (λ (n : ℕ). wrote n (pixel_bytes xs) m) (used k xs rest)

-- from the bytes that a done writing wrote, whatever follows them, and from the very memory that it leaves: the bits used are those
-- written, and the counts' bytes are those that were given
module _ (g : ℕ) (s m : List ℕ) (bytes : Below 256 s) (done : (map_written g s m).answer.number ≡ 0) where
  abbrev k : ℕ
  k = position_bits g

  abbrev xs : List ℕ
  xs = halves_of s

  ok : MapWritable g s
  ok = (map_written-got g s m done).0

  written : map_written g s m ≡ wrote (length (map_bytes k xs)) (map_bytes k xs) m
  written = map_written-done g s m ok (map_written-got g s m done).1

  own-bytes : (rest m' : List ℕ) → 32768 ≤ length m'
      → map_read g (map_bytes k xs ++ rest) (sum xs) m' ≡ wrote (length (map_bits k xs)) (take 32768 s) m'
  own-bytes rest m' room =
      map_read-map_bytes g ok.size xs rest m' (length-halves_of s ok.counts) (below-halves_of s) room
      ∙ ap (λ (b : List ℕ). wrote (length (map_bits k xs)) b m') (pixel_bytes-halves_of s ok.counts bytes)

  pub map_read-front : (rest m' : List ℕ) → 32768 ≤ length m'
      → map_read g (take (map_written g s m).answer.count (map_written g s m).memory ++ rest) (sum (halves_of s)) m'
      ≡ wrote (length (map_bits (position_bits g) (halves_of s))) (take 32768 s) m'
  map_read-front rest m' room =
      rw (written, take_at (map_bytes k xs) (drop (length (map_bytes k xs)) m) (length (map_bytes k xs)) refl) (own-bytes rest m' room)

  pub map_read-map_written : (m' : List ℕ) → 32768 ≤ length m'
      → map_read g (map_written g s m).memory (sum (halves_of s)) m'
      ≡ wrote (length (map_bits (position_bits g) (halves_of s))) (take 32768 s) m'
  map_read-map_written m' room = rw written (own-bytes (drop (length (map_bytes k xs)) m) m' room)
