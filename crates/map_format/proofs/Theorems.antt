-- The theorems about maps, in the words of document 02's ticket 3 and of source document 001; the files below prove them. k is the
-- bits of a position: what is said of pixels and groups is for every k, of whole maps for every k up to 14, and the calls have 2 for
-- groups of 4 and 4 for groups of 16. xs are counts, b and r bits, s bytes, and m is the memory lent for a call, as it was. Assumes
-- nothing.
use Rattle.std.specs.Prelude.{ℕ, ◌+◌, ◌-◌, ◌*◌, ◌^◌, ◌≤◌, ◌<◌, ◌≡◌, true, false, List, [], ◌∷◌, ◌++◌, ◌↔◌, length, take, drop, replicate, eqb}
use Rattle.answer.specs.Outcome.{refusal, refused, wrote, Kept, Within}
use Rattle.bitstream.specs.Bits.{Below, halves_of}
use Rattle.bitstream.specs.Msb.{msb_bits_of, msb_bytes_of, bytes_for}
use Rattle.row_format.specs.Lists.{any}
use Rattle.row_format.specs.Row.{pixel_bytes}
use Rattle.map_format.specs.Reading.{stops, got, Code, read_pixel, sum, photon, read_group, read_groups}
use Rattle.map_format.specs.Writing.{pixel_bits, positions, group_bits, groups_bits}
use Rattle.map_format.specs.Calls.{position_bits, map_groups, max_map_bytes, read_map, map_read_numbers, map_read, map_bits, map_bytes}
use Rattle.map_format.specs.Calls.{map_written_numbers, map_written}
use Rattle.map_format.specs.Choice.{code_bits, CodeFits, body_bits, Wide, Sparse, swapped, any_swapped, Rewritten}
use Rattle.map_format.specs.Grammar.{GroupsCode, Begins, fault_after, Fault20, Unfinished}
use Rattle.map_format.specs.Verdict.{GroupSize, MapReadable, MapBegins, MapFault, MapUnfinished, ReadVerdict, WrittenVerdict}
use Again.{read_map-total, read_map-got, count-least, counts-total, again-done, again-same}
use Back.{read_map-own, read_map-bytes, spare-zeros, map_read-front, map_read-map_written}
use Bound.{group-most, group-few, map-most, map-least, map-wide, map-few}
use Bytes.{bytes_most, bytes-least, bytes-met, bytes-met-least, map_written-room, map_written-room-met}
use Codes.{code_fits, code-only, code-written, code_read, one-position, two-positions}
use Done.{read_group-got}
use Ample.{read-enough, read-used}
use Groups.{read_group-own}
use Keeps.{read-numbers, read_kept, read-within, written-numbers, written-kept, written-within}
use Pixels.{read_pixel-got}
use Refused.{groups-got, groups-one, groups-written, groups-20, groups-19, read-verdict, read_left, group-size, map-counts, map_below}
use Refused.{read-14, read-5, read-19, read-20, read-21, read-0, written-verdict, map-sum, map-sum-32}
use Unread.{groups-fault-cut, groups-cut, read_more, read-begun, read_alike, read-cut}
pub mod Again
pub mod Back
pub mod Bound
pub mod Bytes
pub mod Codes
pub mod Done
pub mod Ample
pub mod Groups
pub mod Keeps
pub mod Pixels
pub mod Refused
pub mod Unread

-- ---- "A written form is wanted too": what is written is read
pub group-written-read : (k : ℕ) (xs r : List ℕ) → length xs ≡ 2 ^ k → Below 65536 xs
    → read_group k (group_bits k xs ++ r) ≡ got xs r
group-written-read = read_group-own

-- "One proof serves both group sizes"
pub map-written-read : (k : ℕ) (xs r : List ℕ) → k ≤ 14 → length xs ≡ 16384 → Below 65536 xs
    → read_map k (sum xs) (map_bits k xs ++ r) ≡ got xs r
map-written-read = read_map-own

-- from bytes, whatever bytes follow: the map's own bits are used, and no others
pub map-bytes-read : (k : ℕ) (xs rest : List ℕ) → k ≤ 14 → length xs ≡ 16384 → Below 65536 xs
    → let b = msb_bits_of (map_bytes k xs ++ rest) in
    read_map k (sum xs) b ≡ got xs (drop (length (map_bits k xs)) b)
map-bytes-read = read_map-bytes

-- "Spare bits of the last byte are written 0"
pub map-spare-zeros : (k : ℕ) (xs : List ℕ)
    → let n = length (map_bits k xs) in
    (msb_bits_of (map_bytes k xs) ≡ map_bits k xs ++ replicate (8 * bytes_for n - n) 0) × (8 * bytes_for n - n < 8)
map-spare-zeros = spare-zeros

-- the calls: from the bytes that a done writing wrote, whatever follows them, and from the very memory that it leaves, reading with the
-- counts' own total is done, uses the bits written, and gives the counts' bytes back
module _ (g : ℕ) (s m : List ℕ) (bytes : Below 256 s) (done : (map_written g s m).answer.number ≡ 0) where
  pub written_read : (rest m' : List ℕ) → 32768 ≤ length m'
      → map_read g (take (map_written g s m).answer.count (map_written g s m).memory ++ rest) (sum (halves_of s)) m'
      ≡ wrote (length (map_bits (position_bits g) (halves_of s))) (take 32768 s) m'
  written_read = map_read-front g s m bytes done

  pub written-read-memory : (m' : List ℕ) → 32768 ≤ length m'
      → map_read g (map_written g s m).memory (sum (halves_of s)) m'
      ≡ wrote (length (map_bits (position_bits g) (halves_of s))) (take 32768 s) m'
  written-read-memory = map_read-map_written g s m bytes done

-- ---- what is read
-- a pixel has one form: the bits that it was read from are those that it is written in
pub pixel-back : (b : List ℕ) {x : ℕ} {r : List ℕ} → Below 2 b → read_pixel b ≡ got x r → (b ≡ pixel_bits x ++ r) × (x < 65536)
pixel-back b bin done = read_pixel-got b bin done

-- what is read is written in as many bits, and in the same bits exactly where no code 001 had its higher position first
pub group-back : (k : ℕ) (b : List ℕ) {xs r : List ℕ} → Below 2 b → read_group k b ≡ got xs r
    → Rewritten (2 ^ k) (group_bits k xs) (swapped k b) b xs r
group-back = read_group-got

module _ (k total : ℕ) (b : List ℕ) {xs r : List ℕ} (done : read_map k total b ≡ got xs r) where
  pub map_back : k ≤ 14 → Below 2 b → Rewritten 16384 (map_bits k xs) (any_swapped k (map_groups k) b) b xs r
  map_back = read_map-got k total b done

  pub map-total : sum xs ≡ total
  map-total = read_map-total k total b done

-- the calls: n bits were read, and c are the counts' bytes that this left. They have the photons that the caller gave; writing them is
-- done in as many bytes as n bits fill; and those are the bytes read, but for spare bits of 0, exactly where no higher position came
-- first
module _ (g : ℕ) (s : List ℕ) (total : ℕ) (m : List ℕ) (done : (map_read g s total m).answer.number ≡ 0) where
  pub read-total : sum (halves_of (take 32768 (map_read g s total m).memory)) ≡ total
  read-total = counts-total g s total m done

  pub read-written : (m' : List ℕ)
      → let n = (map_read g s total m).answer.count in
      let c = take 32768 (map_read g s total m).memory in
      bytes_for n ≤ length m' → map_written g c m' ≡ wrote (bytes_for n) (map_bytes (position_bits g) (halves_of c)) m'
  read-written = again-done g s total m done

  pub read-written-same :
      let k = position_bits g in
      let n = (map_read g s total m).answer.count in
      let c = take 32768 (map_read g s total m).memory in
      (map_bytes k (halves_of c) ≡ msb_bytes_of (bytes_for n) (take n (msb_bits_of s)))
      ↔ (any_swapped k (map_groups k) (msb_bits_of s) ≡ false)
  read-written-same = again-same g s total m done

-- ---- "choosing the first of the four codes that fits and the lower position first"
-- one fits and no other, so it is the first; the group is written by it; and what a code is read as is a group that it fits
pub some-code-fits : (xs : List ℕ) → (c : Code) × CodeFits c xs
some-code-fits = code_fits

pub one-code-fits : (xs : List ℕ) (c d : Code) → CodeFits c xs → CodeFits d xs → c ≡ d
one-code-fits = code-only

pub fitting-code-written : (k : ℕ) (xs : List ℕ) (c : Code) → CodeFits c xs → group_bits k xs ≡ code_bits c ++ body_bits k c xs
fitting-code-written = code-written

pub fitting-code-read : (k : ℕ) (c : Code) (b : List ℕ) {xs r : List ℕ} → Below 2 b → read_group k (code_bits c ++ b) ≡ got xs r
    → CodeFits c xs
fitting-code-read = code_read

-- the positions that are written are the photons' own
pub position-written : (xs : List ℕ) → sum xs ≡ 1
    → (p : ℕ) × (p < length xs) × (positions 0 xs ≡ p ∷ []) × (xs ≡ photon p (replicate (length xs) 0))
position-written = one-position

pub lower-position-first : (xs : List ℕ) → sum xs ≡ 2
    → (p : ℕ) × (q : ℕ) × (p ≤ q) × (q < length xs) × (positions 0 xs ≡ p ∷ q ∷ [])
    × (xs ≡ photon q (photon p (replicate (length xs) 0)))
lower-position-first = two-positions

-- ---- how many bits and bytes
pub group-bits-most : (k : ℕ) (xs : List ℕ) → length xs ≤ 2 ^ k → length (group_bits k xs) ≤ 3 + 22 * 2 ^ k
group-bits-most = group-most

pub map-bits-most : (k : ℕ) (xs : List ℕ) → length (map_bits k xs) ≤ map_groups k * (3 + 22 * 2 ^ k)
map-bits-most = map-most

-- met by counts above 17
pub map-bits-met : (k : ℕ) (xs : List ℕ) → k ≤ 14 → length xs ≡ 16384 → Wide xs
    → length (map_bits k xs) ≡ map_groups k * (3 + 22 * 2 ^ k)
map-bits-met = map-wide

pub map-bits-least : (k : ℕ) (xs : List ℕ) → map_groups k ≤ length (map_bits k xs)
map-bits-least = map-least

-- "the number of additional bits per photon from 3 to 5": k + 1 for each, where no group has more than two
pub group-bits-few : (k : ℕ) (xs : List ℕ) → sum xs ≤ 2 → length (group_bits k xs) ≡ 1 + sum xs * (k + 1)
group-bits-few = group-few

pub map-bits-few : (k : ℕ) (xs : List ℕ) → k ≤ 14 → length xs ≡ 16384 → Sparse k (map_groups k) xs
    → length (map_bits k xs) ≡ map_groups k + sum xs * (k + 1)
map-bits-few = map-few

-- the header's two limits, and "the minimum- overhead of 512 bytes" "reduced to only 128 bytes"; both are met
pub map-bytes-most : (xs : List ℕ) → (length (map_bytes 2 xs) ≤ 46592) × (length (map_bytes 4 xs) ≤ 45440)
map-bytes-most = bytes_most

pub map-bytes-met : (xs : List ℕ) × (length xs ≡ 16384) × Below 65536 xs
    × (length (map_bytes 2 xs) ≡ 46592) × (length (map_bytes 4 xs) ≡ 45440)
map-bytes-met = bytes-met

pub map-bytes-least : (xs : List ℕ) → (512 ≤ length (map_bytes 2 xs)) × (128 ≤ length (map_bytes 4 xs))
map-bytes-least = bytes-least

pub map-bytes-met-least : (xs : List ℕ) × (length xs ≡ 16384) × Below 65536 xs
    × (length (map_bytes 2 xs) ≡ 512) × (length (map_bytes 4 xs) ≡ 128)
map-bytes-met-least = bytes-met-least

-- so this room is always enough for the call, and for some counts no less is
pub written-room : (g : ℕ) (s m : List ℕ) → max_map_bytes g ≤ length m → (map_written g s m).answer.number ≡ 5 → ⊥
written-room = map_written-room

pub written-room-met : (g : ℕ) → GroupSize g → (s : List ℕ) × (length s ≡ 32768) × Below 256 s
    × ((m : List ℕ) → length m < max_map_bytes g → map_written g s m ≡ refused 5 m)
written-room-met = map_written-room-met

-- ---- refusals
-- The grammar of Grammar.antt, which is not the reading: groups are read exactly where the bits begin with those of n groups, and as
-- these; what bits begin with is one thing alone; and what is written is of the grammar.
pub groups-exactly : (k n : ℕ) (b : List ℕ) → Below 2 b → (xs r : List ℕ) → (read_groups k n b ≡ got xs r) ↔ Begins k n xs b r
groups-exactly = groups-got

pub groups-alone : (k n : ℕ) (b xs ys r t : List ℕ) → Begins k n xs b r → Begins k n ys b t
    → (xs ≡ ys) × (r ≡ t)
groups-alone = groups-one

pub groups-written-so : (k n : ℕ) (xs : List ℕ) → length xs ≡ n * 2 ^ k → Below 65536 xs → GroupsCode k n xs (groups_bits k n xs)
groups-written-so = groups-written

-- "20 a 16-bit pixel not above 17, or a code 000 group of fewer than three, judged after its last pixel": exactly where such bits
-- stand, and all that come before them are lawful; with any of the fault's bits missing it is 19
pub groups-fault : (k n : ℕ) (b : List ℕ) → Below 2 b → (read_groups k n b ≡ stops 20) ↔ Fault20 k n b
groups-fault = groups-20

pub groups-fault-whole : (k n : ℕ) (b : List ℕ) (f : Fault20 k n b) (j : ℕ) → j + length (fault_after f.faulty) < length b
    → read_groups k n (take j b) ≡ stops 19
groups-fault-whole = groups-fault-cut

-- "19 bits end": neither is there; and of the bits that a done reading used every proper part is refused so
pub groups-end : (k n : ℕ) (b : List ℕ) → Below 2 b → (read_groups k n b ≡ stops 19) ↔ Unfinished k n b
groups-end = groups-19

pub groups-need-all : (k n : ℕ) (b : List ℕ) → Below 2 b → (xs r : List ℕ) → read_groups k n b ≡ got xs r
    → (j : ℕ) → j < length b - length r → read_groups k n (take j b) ≡ stops 19
groups-need-all = groups-cut

-- each number of a call exactly in its case, which Verdict.antt lists: "14 .. then 5; 19 .., 20 .., 21 ..; earliest bit first, 21 last"
module _ (g : ℕ) (s : List ℕ) (total : ℕ) (m : List ℕ) where
  pub read_number_lem : (e : ℕ) → ((map_read g s total m).answer.number ≡ e) ↔ ReadVerdict g s total m e
  read_number_lem = read-verdict g s total m

  pub read-size : ((map_read g s total m).answer.number ≡ 14) ↔ (GroupSize g → ⊥)
  read-size = read-14 g s total m

  pub read-room : ((map_read g s total m).answer.number ≡ 5) ↔ (GroupSize g × (length m < 32768))
  read-room = read-5 g s total m

  pub read-end : ((map_read g s total m).answer.number ≡ 19) ↔ (MapReadable g m × MapUnfinished g s)
  read-end = read-19 g s total m

  pub read-fault : ((map_read g s total m).answer.number ≡ 20) ↔ (MapReadable g m × MapFault g s)
  read-fault = read-20 g s total m

  pub read-other-total : ((map_read g s total m).answer.number ≡ 21)
      ↔ ((ok : MapReadable g m) × (xs : List ℕ) × (r : List ℕ) × MapBegins g s xs r × (sum xs ≡ total → ⊥))
  read-other-total = read-21 g s total m

  pub read_done : ((map_read g s total m).answer.number ≡ 0)
      ↔ ((ok : MapReadable g m) × (xs : List ℕ) × (r : List ℕ) × MapBegins g s xs r × (sum xs ≡ total))
  read_done = read-0 g s total m

  -- and then the count is the bits of the groups, and the memory begins with their counts
  pub read-leaves : MapReadable g m → (xs r : List ℕ) (f : MapBegins g s xs r) → sum xs ≡ total
      → map_read g s total m ≡ wrote (length f.front) (pixel_bytes xs) m
  read-leaves = read_left g s total m

-- "group size 4 or 16"; "Positions have 2 or 4 bits": a group has as many pixels as positions
pub size-pixels : (g : ℕ) → GroupSize g → 2 ^ position_bits g ≡ g
size-pixels = group-size

-- "128 x 128 counts"
pub map-counts-all : (g : ℕ) (s xs r : List ℕ) → MapBegins g s xs r → (length xs ≡ 128 * 128) × Below 65536 xs
map-counts-all g s xs r f = (map-counts g s xs r f, map_below g s xs r f)

pub written-number : (g : ℕ) (s m : List ℕ) (e : ℕ) → ((map_written g s m).answer.number ≡ e) ↔ WrittenVerdict g s m e
written-number = written-verdict

-- the sum that 21 compares is the true one, and fits 32 bits
pub map-sum-most : (g : ℕ) (s xs r : List ℕ) → MapBegins g s xs r → sum xs ≤ 16384 * 65535
map-sum-most = map-sum

pub map-sum-fits : (g : ℕ) (s xs r : List ℕ) → MapBegins g s xs r → sum xs < 2 ^ 32
map-sum-fits = map-sum-32

-- ---- "they and later bytes are not looked at"
module _ (g : ℕ) (s : List ℕ) (total : ℕ) (m : List ℕ) where
  -- an answer other than 19 is the answer to all bytes that begin so
  pub later-bytes-unread : (t : List ℕ) → ((map_read g s total m).answer.number ≡ 19 → ⊥)
      → map_read g (s ++ t) total m ≡ map_read g s total m
  later-bytes-unread = read_more g s total m

  -- where j bits are enough for an answer, done or refused, all bytes that begin with them get it
  pub later-bits-unread : (t : List ℕ) (j : ℕ) → take j (msb_bits_of t) ≡ take j (msb_bits_of s)
      → (read_map (position_bits g) total (take j (msb_bits_of s)) ≡ stops 19 → ⊥) → map_read g t total m ≡ map_read g s total m
  later-bits-unread = read-begun g s total m

  -- spare bits: alike in the bits that a done reading counts, alike in all that it leaves
  pub spare-bits-unread : (t : List ℕ) → (map_read g s total m).answer.number ≡ 0
      → let n = (map_read g s total m).answer.count in
      take n (msb_bits_of t) ≡ take n (msb_bits_of s) → map_read g t total m ≡ map_read g s total m
  spare-bits-unread = read_alike g s total m

  -- the bits counted are needed, in whole bytes
  pub counted-bits-needed : (map_read g s total m).answer.number ≡ 0 → (i : ℕ) → 8 * i < (map_read g s total m).answer.count
      → map_read g (take i s) total m ≡ refused 19 m
  counted-bits-needed = read-cut g s total m

  -- the header's limits in bytes are never refused 19, and no reading uses more
  pub read-bytes-enough : max_map_bytes g ≤ length s → (map_read g s total m).answer.number ≡ 19 → ⊥
  read-bytes-enough = read-enough g s total m

  pub read-bits-most : (map_read g s total m).answer.count ≤ 8 * max_map_bytes g
  read-bits-most = read-used g s total m

  -- nor fewer than the map has groups
  pub read-bits-least : (map_read g s total m).answer.number ≡ 0 → map_groups (position_bits g) ≤ (map_read g s total m).answer.count
  read-bits-least = count-least g s total m

-- ---- demand 1
-- "each call .. answers with a number": those that the ticket lists
pub read-call-numbers : (g : ℕ) (s : List ℕ) (total : ℕ) (m : List ℕ)
    → any (eqb (map_read g s total m).answer.number) map_read_numbers ≡ true
read-call-numbers = read-numbers

pub write-call-numbers : (g : ℕ) (s m : List ℕ) → any (eqb (map_written g s m).answer.number) map_written_numbers ≡ true
write-call-numbers = written-numbers

-- "A refused call gives its number, zero for every count and value, and leaves the lent memory as found"
pub read-refused-keeps : (g : ℕ) (s : List ℕ) (total : ℕ) (m : List ℕ) → ((map_read g s total m).answer.number ≡ 0 → ⊥)
    → Kept (refusal (map_read g s total m).answer.number) m (map_read g s total m)
read-refused-keeps = read_kept

pub write-refused-keeps : (g : ℕ) (s m : List ℕ) → ((map_written g s m).answer.number ≡ 0 → ⊥)
    → Kept (refusal (map_written g s m).answer.number) m (map_written g s m)
write-refused-keeps = written-kept

-- "A done call writes only the pixels, words or bytes that it counts": the counts' 32768 bytes, and the map's
pub read-writes-counts : (g : ℕ) (s : List ℕ) (total : ℕ) (m : List ℕ) → Within 32768 m (map_read g s total m)
read-writes-counts = read-within

pub write-writes-map : (g : ℕ) (s m : List ℕ) → Within (map_written g s m).answer.count m (map_written g s m)
write-writes-map = written-within
