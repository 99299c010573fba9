-- Document 02's ticket 6, "The partner shares our shelf of tables": what a shelf holds, and whose its places are. A shelf s and
-- what stands in a place, b, are bytes; p is a party and i a place, of any value. Definitions only; their laws are in proofs/Shelf/.
-- Assumes nothing.
use Rattle.std.specs.Prelude.{ℕ, ◌+◌, ◌-◌, ◌*◌, ◌≡◌, Bool, cond, ◌&&◌, ◌||◌, List, [], ◌++◌, length, take, drop, replicate, ltb, leb, eqb}
use Rattle.bitstream.specs.Bits.{words_of}
use Rattle.row_format.specs.Table.{table_size}

-- ---- "One lent shelf holds twelve places of 8,193 words": of 32,772 bytes, and 393,264 in all. What follows is not the shelf's
abbrev pub place_bytes : ℕ
place_bytes = 32772

abbrev pub shelf_bytes : ℕ
shelf_bytes = 393264

unfoldable pub place : List ℕ → ℕ → List ℕ
place s i = take place_bytes (drop (place_bytes * i) s)

-- the shelf with b in place i, and all else as it was
unfoldable pub placed : List ℕ → ℕ → List ℕ → List ℕ
placed s i b = take (place_bytes * i) s ++ (b ++ drop (place_bytes * i + place_bytes) s)

-- "each written as a table and then zeros, or all zeros": the latter is no table and then zeros
unfoldable pub filled : List ℕ → List ℕ
filled tb = tb ++ replicate (place_bytes - length tb) 0

-- "a tableSize of 0 means free", whatever the other words are
unfoldable pub is_free : List ℕ → Bool
is_free b = eqb (table_size (words_of b)) 0

-- "no word after a table is looked at": the table is as long as its tableSize says, 6 + tableSize words, or is all of its place where
-- that is longer, and then it is refused 1
unfoldable pub table_in : List ℕ → List ℕ
table_in b = take (24 + 4 * table_size (words_of b)) b

-- "changes its one place and nothing else": what stands before the place and behind it is as it was
pub record OnlyPlace (i : ℕ) (s s' : List ℕ) : Type 0 where
  pub size : length s' ≡ length s
  pub before : take (place_bytes * i) s' ≡ take (place_bytes * i) s
  pub behind : drop (place_bytes * i + place_bytes) s' ≡ drop (place_bytes * i + place_bytes) s

-- ---- "Places 0 to 3 are common .., 4 to 7 hers (party 0), 8 to 11 the partner's (party 1)"
abbrev pub is_party : ℕ → Bool
is_party p = ltb p 2

abbrev pub is_common : ℕ → Bool
is_common i = ltb i 4

abbrev pub first_own : ℕ → ℕ
first_own p = 4 + 4 * p

unfoldable pub is_own : ℕ → ℕ → Bool
is_own p i = is_party p && (leb (first_own p) i && ltb i (first_own p + 4))

-- "Each may put, use and remove tables in their own four, and use the common ones"
abbrev pub is_seen : ℕ → ℕ → Bool
is_seen p i = is_common i || is_own p i

unfoldable pub may_use : ℕ → ℕ → Bool
may_use p i = is_party p && is_seen p i

-- ---- what a party sees of the shelf: "the common places, that party's own places", and nothing of any other
unfoldable pub view : ℕ → List ℕ → ℕ → List ℕ
view p s i = cond (is_seen p i) (place s i) []

-- two shelves are alike to a party
abbrev pub SameView : ℕ → List ℕ → List ℕ → Type 0
SameView p s s' = (i : ℕ) → view p s i ≡ view p s' i
