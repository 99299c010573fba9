-- Document 02's ticket 3, "The mat stores 128 x 128 counts, row by row, in the groups of source document 001": whole maps, and what
-- the calls come to. g is a group size, s and m are bytes. Definitions only; their laws are in Calls/. Assumes nothing.
use Rattle.std.specs.Prelude.{ℕ, ◌-◌, ◌*◌, ◌/◌, ◌^◌, not, ◌||◌, cond, List, [], ◌∷◌, length, eqb}
use Rattle.answer.specs.declared.Answer.{Answer}
use Rattle.answer.specs.Outcome.{Outcome, refused, wrote, wrote_or_full, ◌or_else◌, refuse_if, unless, lent, room_number}
use Rattle.bitstream.specs.Bits.{halves_of}
use Rattle.bitstream.specs.Msb.{msb_bits_of, msb_bytes_of, bytes_for}
use Rattle.row_format.specs.Row.{pixel_bytes}
use Rattle.map_format.specs.Reading.{Parse, stops, got, ◌then◌, sum, read_groups}
use Rattle.map_format.specs.Writing.{groups_bits}
pub mod Laws

-- ---- "Read a map of group size 4 or 16"; "Positions have 2 or 4 bits"; "14 another group size"
abbrev pub position_bits : ℕ → ℕ
position_bits g = cond (eqb g 4) 2 4

unfoldable pub size_number : ℕ → ℕ
size_number g = refuse_if (not (eqb g 4 || eqb g 16)) 14

-- the groups of a map
abbrev pub map_groups : ℕ → ℕ
map_groups k = 2 ^ (14 - k)

-- the most bytes of a map: 4096 groups of 3 + 22 * 4 bits, or 1024 groups of 3 + 22 * 16
abbrev pub max_map_bytes : ℕ → ℕ
max_map_bytes g = cond (eqb g 4) 46592 45440

-- ---- reading
-- "The caller gives the photon total"; "21 total differs", "21 last". The sum is the true one: no width limits it
abbrev pub totalled : ℕ → List ℕ → List ℕ → Parse (List ℕ)
totalled total xs b = cond (eqb (sum xs) total) (got xs b) (stops 21)

unfoldable pub read_map : ℕ → ℕ → List ℕ → Parse (List ℕ)
read_map k total b = read_groups k (map_groups k) b then totalled total

-- what it leaves: the counts, two bytes each, and the bits that were used, of n
abbrev pub map_left : ℕ → List ℕ → Parse (List ℕ) → Outcome Answer
map_left n m (stops e) = refused e m
map_left n m (got xs b) = wrote (n - length b) (pixel_bytes xs) m

-- the numbers that it may answer
abbrev pub map_read_numbers : List ℕ
map_read_numbers = 0 ∷ 14 ∷ 5 ∷ 19 ∷ 20 ∷ 21 ∷ []

-- "Refusals: 14 another group size .., then 5; 19 .., 20 .., 21 ..; earliest bit first, 21 last, map untouched"
unfoldable pub map_read : ℕ → List ℕ → ℕ → List ℕ → Outcome Answer
map_read g s total m =
    unless (size_number g or_else room_number (lent (length m)) 32768) (λ e. refused e m)
    (map_left (8 * length s) m (read_map (position_bits g) total (msb_bits_of s)))

-- ---- writing
unfoldable pub map_bits : ℕ → List ℕ → List ℕ
map_bits k xs = groups_bits k (map_groups k) xs

-- "Spare bits of the last byte are written 0"
unfoldable pub map_bytes : ℕ → List ℕ → List ℕ
map_bytes k xs = msb_bytes_of (bytes_for (length (map_bits k xs))) (map_bits k xs)

-- the numbers that it may answer
abbrev pub map_written_numbers : List ℕ
map_written_numbers = 0 ∷ 14 ∷ 5 ∷ []

-- "14 another group size or, in writing, other than 16384 counts, then 5"
unfoldable pub counts_number : List ℕ → ℕ
counts_number s = refuse_if (not (eqb (length s / 2) 16384)) 14

unfoldable pub map_written : ℕ → List ℕ → List ℕ → Outcome Answer
map_written g s m =
    unless (size_number g or_else counts_number s) (λ e. refused e m)
    (wrote_or_full (length (map_bytes (position_bits g) (halves_of s))) (map_bytes (position_bits g) (halves_of s)) m)
