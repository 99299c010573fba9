-- The listing of a table: its strings in tree order, a line each, or the one line `refused N`; and the call that gives the
-- lines of an accepted table, a block of them at a time. Definitions only; their laws are in Listing/. Assumes nothing.
use Rattle.std.specs.Prelude.{ℕ, zero, suc, ◌-◌, cond, List, [], ◌∷◌, ◌++◌, map, length, take, drop, leb}
use Rattle.bitstream.specs.Bits.{words_of}
use Rattle.answer.specs.Outcome.{Outcome, outcome, writes, ◌or_else◌, unless, lent, room_number}
use Rattle.row_format.specs.Table.{codeword_at, table_number}
use Rattle.text.specs.Lines.{refused_line}
use Rattle.table_listing.specs.Order.{order, places}
use Rattle.table_listing.specs.Line.{line}
use Rattle.table_listing.specs.Listed.{ListedLines}
pub mod Laws
pub mod Blocks
pub mod Answers
pub mod Told
pub mod Long

-- the places of a table's strings in tree order, "never deeper than 27"
abbrev pub tree_order : List ℕ → List ℕ
tree_order t = order (codeword_at t) 27 0 (places (length t - 3))

-- a line for each string
abbrev pub string_lines : List ℕ → List (List ℕ)
string_lines t = map (line t) (tree_order t)

-- what is printed for a table's number and words
unfoldable pub lines_for : ℕ → List ℕ → List (List ℕ)
lines_for zero t = string_lines t
lines_for (suc e) t = refused_line (suc e) ∷ []

-- and for its bytes
unfoldable pub lines : List ℕ → List (List ℕ)
lines b = lines_for (table_number b) (words_of b)

-- texts one after the other
unfoldable pub joined : List (List ℕ) → List ℕ
joined [] = []
joined (l ∷ ls) = l ++ joined ls

-- the whole listing
abbrev pub table_listing : List ℕ → List ℕ
table_listing b = joined (lines b)

-- ---- the call: a block of lines at the front of the memory m lent for it
-- how many lines, from the first on, fit whole into a room
unfoldable pub fitting : ℕ → List (List ℕ) → ℕ
fitting room [] = 0
fitting room (l ∷ ls) = let q : ℕ = fitting (room - length l) ls in cond (leb (length l) room) (suc q) 0

-- 5 where there is a next line and it does not fit
unfoldable pub next_number : List (List ℕ) → ℕ → ℕ
next_number [] room = 0
next_number (l ∷ ls) room = room_number (lent room) (length l)

abbrev pub listed_of : ℕ → ℕ → ℕ → ListedLines
listed_of e n k = record { number = e; lines = n; bytes = k }

abbrev pub no_lines : ℕ → ListedLines
no_lines e = listed_of e 0 0

-- so many of some lines
abbrev pub lines_put : ℕ → List (List ℕ) → List ℕ → Outcome ListedLines
lines_put n ls m = writes (listed_of 0 n (length (joined (take n ls)))) (joined (take n ls)) m

-- as many as fit, unless a number refuses the call; no lines where none are left
unfoldable pub block_of : ℕ → List (List ℕ) → List ℕ → Outcome ListedLines
block_of e ls m = unless e (λ k. outcome (no_lines k) m) (lines_put (fitting (length m) ls) ls m)

-- the lines that a table has from the line `first` on
abbrev pub lines_from : List ℕ → ℕ → List (List ℕ)
lines_from b first = drop first (string_lines (words_of b))

-- "1, 2, 3" for the table, then 5
unfoldable pub block : List ℕ → ℕ → List ℕ → Outcome ListedLines
block b first m = block_of (table_number b or_else next_number (lines_from b first) (length m)) (lines_from b first) m
