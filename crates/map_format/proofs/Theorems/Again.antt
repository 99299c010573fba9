-- Maps that were read, written again. Assumes nothing.
use Rattle.std.specs.Prelude.{ℕ, ◌-◌, ◌*◌, ◌/◌, ◌≤◌, ◌≡◌, refl, false, ◌↔◌, length, drop, replicate, eqb}
use Rattle.std.proofs.Common.{arith, subst, ◌∙◌, length-append, eqb-true}
use Rattle.std.proofs.Math.Path.{sym, ap}
use mathlib.Core.List.{List, ◌++◌}
use Rattle.std.proofs.Math.ListN.{take}
use Rattle.std.proofs.Math.Seq.{take_at}
use Rattle.answer.specs.Outcome.{wrote}
use Rattle.bitstream.specs.Bits.{Below, flat, halves_of}
use Rattle.bitstream.specs.Bits.Laws.{length_cut, pad-all}
use Rattle.bitstream.specs.Msb.{msb_bits_of, msb_bytes_of, bytes_for}
use Rattle.bitstream.specs.Msb.Laws.{length-msb_bits_of, below-msb_bits_of, msb_bits_of-bytes}
use Rattle.row_format.specs.Lists.Laws.{by-test}
use Rattle.row_format.specs.Row.{pixel_bytes}
use Rattle.row_format.proofs.Theorems.Words.{halves_of-bytes_of}
use Rattle.map_format.specs.Reading.{got, sum, read_groups}
use Rattle.map_format.specs.Reading.Laws.{stops-got, got_same, then-got}
use Rattle.map_format.specs.Writing.{groups_bits}
use Rattle.map_format.specs.Choice.{any_swapped, Rewritten}
use Rattle.map_format.specs.Calls.{position_bits, map_groups, totalled, read_map, map_left, map_read, map_bits, map_bytes, map_written}
use Rattle.map_format.specs.Calls.Laws.{map-pixels, position_bits-most, below-map_bits, length-map_bytes}
use Rattle.map_format.specs.Verdict.{MapReadable}
use Rattle.map_format.proofs.Verdict.Laws.{map_read-readable, map_read-got, map_written-done}
use Rattle.map_format.proofs.Theorems.Bound.{map-least}
use Rattle.map_format.proofs.Theorems.Done.{read_groups-got}

-- ---- bits
module _ (k total : ℕ) (b : List ℕ) {xs r : List ℕ} (done : read_map k total b ≡ got xs r) where
  pub read_map-total : sum xs ≡ total
  unfolding read_map
  read_map-total =
      let (ys, s, groups, last) = then-got (read_groups k (map_groups k) b) (totalled total) done in
      by-test (eqb (sum ys) total)
      (λ same. got_same (λ (zs t : List ℕ). sum zs ≡ total) (rw same at last) (eqb-true (sum ys) total same))
      (λ other. stops-got (rw other at last))

  pub read_map-got : k ≤ 14 → Below 2 b → Rewritten 16384 (map_bits k xs) (any_swapped k (map_groups k) b) b xs r
  unfolding read_map map_bits
  read_map-got h bin =
      let n = map_groups k in
      let (ys, s, groups, last) = then-got (read_groups k n b) (totalled total) done in
      by-test (eqb (sum ys) total)
      (λ same.
      got_same (λ (zs t : List ℕ). Rewritten 16384 (groups_bits k n zs) (any_swapped k n b) b zs t) (rw same at last)
      (subst (λ (p : ℕ). Rewritten p (groups_bits k n ys) (any_swapped k n b) b ys s) (map-pixels k h) (read_groups-got k n b bin groups)))
      (λ other. stops-got (rw other at last))

-- ---- bytes
-- bits of one length that fill the same bytes are the same
bytes_apart : (n : ℕ) (a b : List ℕ) → Below 2 a → Below 2 b → length a ≡ length b → length a ≤ 8 * n
    → msb_bytes_of n a ≡ msb_bytes_of n b → a ≡ b
bytes_apart n a b ha hb size fits e =
    let padded : (l : List ℕ) → Below 2 l → length l ≡ length a → msb_bits_of (msb_bytes_of n l) ≡ l ++ replicate (8 * n - length l) 0 =
    λ l bin same. msb_bits_of-bytes n l bin ∙ pad-all (8 * n) l (omega arith) in
    sym (take_at a (replicate (8 * n - length a) 0) (length a) refl)
    ∙ ap (take (length a)) (sym (padded a ha refl) ∙ ap msb_bits_of e ∙ padded b hb (sym size))
    ∙ take_at b (replicate (8 * n - length b) 0) (length a) (sym size)

-- ---- the calls: n bits were read, and c are the counts' bytes that this left
module _ (g : ℕ) (s : List ℕ) (total : ℕ) (m : List ℕ) (done : (map_read g s total m).answer.number ≡ 0) where
  abbrev k : ℕ
  k = position_bits g

  abbrev n : ℕ
  n = (map_read g s total m).answer.count

  abbrev c : List ℕ
  c = take 32768 (map_read g s total m).memory

  -- the counts, and the bits left
  abbrev xs : List ℕ
  xs = (map_read-got g s total m done).1

  abbrev r : List ℕ
  r = (map_read-got g s total m done).2

  ok : MapReadable g m
  ok = (map_read-got g s total m done).0

  read : read_map k total (msb_bits_of s) ≡ got xs r
  read = (map_read-got g s total m done).3

  left : map_read g s total m ≡ wrote (8 * length s - length r) (pixel_bytes xs) m
  left = map_read-readable g s total m ok ∙ ap (map_left (8 * length s) m) read

  back : Rewritten 16384 (map_bits k xs) (any_swapped k (map_groups k) (msb_bits_of s)) (msb_bits_of s) xs r
  back = read_map-got k total (msb_bits_of s) read (position_bits-most g) (below-msb_bits_of s)

  count_bits : n ≡ length back.bits
  count_bits =
      let all : 8 * length s ≡ length (back.bits ++ r) = sym (length-msb_bits_of s) ∙ ap length back.whole in
      ap (λ o. o.answer.count) left ∙ (omega (arith, all, length-append back.bits r))

  count-written : n ≡ length (map_bits k xs)
  count-written = count_bits ∙ sym back.long

  -- at least one for each group
  pub count-least : map_groups (position_bits g) ≤ (map_read g s total m).answer.count
  count-least = omega (arith, count-written, map-least k xs)

  size-bytes : length (pixel_bytes xs) ≡ 32768
  size-bytes = length_cut 8 (2 * length xs) (flat 16 xs) ∙ ap (2 *◌) back.size

  counts-bytes : c ≡ pixel_bytes xs
  counts-bytes =
      ap (λ o. take 32768 o.memory) left
      ∙ take_at (pixel_bytes xs) (drop (length (pixel_bytes xs)) m) 32768 size-bytes

  counts-halves : halves_of c ≡ xs
  counts-halves = ap halves_of counts-bytes ∙ halves_of-bytes_of (length xs) xs refl back.counts

  -- they have the photons that were told
  pub counts-total : sum (halves_of (take 32768 (map_read g s total m).memory)) ≡ total
  counts-total = ap sum counts-halves ∙ read_map-total k total (msb_bits_of s) read

  bytes-written : length (map_bytes k (halves_of c)) ≡ bytes_for n
  bytes-written =
      length-map_bytes k (halves_of c) ∙ ap (λ (ys : List ℕ). bytes_for (length (map_bits k ys))) counts-halves
      ∙ ap bytes_for (sym count-written)

  -- writing them is done wherever there is room for the bytes that the bits fill
  pub again-done : (m' : List ℕ)
      → let n = (map_read g s total m).answer.count in
      let c = take 32768 (map_read g s total m).memory in
      bytes_for n ≤ length m' → map_written g c m' ≡ wrote (bytes_for n) (map_bytes (position_bits g) (halves_of c)) m'
  again-done m' room =
      let half : length c / 2 ≡ 16384 = ap (λ (l : List ℕ). length l / 2) counts-bytes ∙ ap (◌/ 2) size-bytes in
      map_written-done g c m' (record { size = ok.size; counts = half }) (rw bytes-written room)
      ∙ ap (λ (b : ℕ). wrote b (map_bytes k (halves_of c)) m') bytes-written

  -- and gives the bytes that were read, with spare bits of 0, exactly where no higher position came first
  pub again-same :
      let k = position_bits g in
      let n = (map_read g s total m).answer.count in
      let c = take 32768 (map_read g s total m).memory in
      (map_bytes k (halves_of c) ≡ msb_bytes_of (bytes_for n) (take n (msb_bits_of s)))
      ↔ (any_swapped k (map_groups k) (msb_bits_of s) ≡ false)
  unfolding map_bytes
  again-same =
      let used : take n (msb_bits_of s) ≡ back.bits =
      ap (take n) back.whole ∙ take_at back.bits r n (sym count_bits) in
      let written : map_bytes k (halves_of c) ≡ msb_bytes_of (bytes_for n) (map_bits k xs) =
      ap (map_bytes k) counts-halves ∙ ap (λ (b : ℕ). msb_bytes_of (bytes_for b) (map_bits k xs)) (sym count-written) in
      let bits : Below 2 back.bits = rw used at (Rattle.bitstream.specs.Bits.Laws.below-take n (msb_bits_of s) (below-msb_bits_of s)) in (
        λ e. back.same.0 (bytes_apart (bytes_for n) (map_bits k xs) back.bits (below-map_bits k xs) bits back.long
            (omega (arith, count-written)) (sym written ∙ e ∙ ap (msb_bytes_of (bytes_for n)) used)),
        λ e. written ∙ ap (msb_bytes_of (bytes_for n)) (back.same.1 e ∙ sym used),
      )
