-- What each number of the two calls says, in the words of document 02's ticket 3; a number has no other case than these. g is a group
-- size, s the bytes that are given and m the memory that is lent. Definitions only; their laws are in proofs/Verdict/. Assumes nothing.
use Rattle.std.specs.Prelude.{ℕ, ◌/◌, ◌≤◌, ◌<◌, ◌≡◌, ◌⊎◌, List, length}
use Rattle.bitstream.specs.Bits.{halves_of}
use Rattle.bitstream.specs.Msb.{msb_bits_of}
use Rattle.map_format.specs.Reading.{sum}
use Rattle.map_format.specs.Calls.{position_bits, map_groups, map_bytes}
use Rattle.map_format.specs.Grammar.{Begins, Fault20, Unfinished}

abbrev pub GroupSize : ℕ → Type 0
GroupSize g = (g ≡ 4) ⊎ (g ≡ 16)

-- ---- reading
-- neither 14 nor 5: the bits are looked at
pub record MapReadable (g : ℕ) (m : List ℕ) : Type 0 where
  pub size : GroupSize g
  pub room : 32768 ≤ length m

-- the bytes' bits begin with those of a map of counts xs, and r are the bits after them
abbrev pub MapBegins : ℕ → List ℕ → List ℕ → List ℕ → Type 0
MapBegins g s xs r = Begins (position_bits g) (map_groups (position_bits g)) xs (msb_bits_of s) r

-- in place of a map's bits stand some that are refused 20
abbrev pub MapFault : ℕ → List ℕ → Type 0
MapFault g s = Fault20 (position_bits g) (map_groups (position_bits g)) (msb_bits_of s)

-- neither is there
abbrev pub MapUnfinished : ℕ → List ℕ → Type 0
MapUnfinished g s = Unfinished (position_bits g) (map_groups (position_bits g)) (msb_bits_of s)

pub data ReadVerdict (g : ℕ) (s : List ℕ) (total : ℕ) (m : List ℕ) : ℕ → Type 0 where
  -- "14 another group size"
  other-size : (GroupSize g → ⊥) → ReadVerdict g s total m 14
  -- "then 5"
  no_room_lem : GroupSize g → length m < 32768 → ReadVerdict g s total m 5
  -- "19 bits end"
  bits-end : MapReadable g m → MapUnfinished g s → ReadVerdict g s total m 19
  -- "20 a 16-bit pixel not above 17, or a code 000 group of fewer than three"
  faulty : MapReadable g m → MapFault g s → ReadVerdict g s total m 20
  -- "21 total differs", "21 last"
  other-total : MapReadable g m → (xs r : List ℕ) → MapBegins g s xs r → (sum xs ≡ total → ⊥) → ReadVerdict g s total m 21
  done : MapReadable g m → (xs r : List ℕ) → MapBegins g s xs r → sum xs ≡ total → ReadVerdict g s total m 0

-- ---- writing
pub record MapWritable (g : ℕ) (s : List ℕ) : Type 0 where
  pub size : GroupSize g
  pub counts : length s / 2 ≡ 16384

pub data WrittenVerdict (g : ℕ) (s m : List ℕ) : ℕ → Type 0 where
  -- "14 another group size or, in writing, other than 16384 counts"
  unwritable : (MapWritable g s → ⊥) → WrittenVerdict g s m 14
  -- "then 5"
  bytes-exceed : MapWritable g s → length m < length (map_bytes (position_bits g) (halves_of s)) → WrittenVerdict g s m 5
  written : MapWritable g s → length (map_bytes (position_bits g) (halves_of s)) ≤ length m → WrittenVerdict g s m 0
