-- Document 01, "The record writer is given a kind, its content (table words, a row number and pixels, or numbers) and what
-- the sheet holds so far": what it answers, the memory lent for the record included. x is the content, h the heading and c
-- what the sheet holds so far. Definitions only. Assumes nothing.
use Rattle.std.specs.Prelude.{ℕ, ◌+◌, ◌≡◌, List, [], ◌∷◌, ◌++◌, length}
use Rattle.answer.specs.Outcome.{Outcome, outcome, writes, ◌or_else◌, unless, lent, room_number}
use Rattle.sheet_format.specs.declared.RecordWritten.{RecordWritten}
use Rattle.sheet_format.specs.Context.{Heading, Context, no_state, state_of}
use Rattle.sheet_format.specs.Fields.{two_bytes, four_bytes}
use Rattle.sheet_format.specs.Kind.{after_record}
use Rattle.sheet_format.specs.Kinds.{kind_of}
pub mod Laws

-- "a 4-byte little-endian length that counts what follows it, a two-byte little-endian kind, a body"
unfoldable pub record_bytes : ℕ → List ℕ → List ℕ
record_bytes code b = four_bytes (2 + length b) ++ (two_bytes code ++ b)

-- the record for what the writer is given
abbrev pub record_for : ℕ → Heading → Context → List ℕ → List ℕ
record_for code h c x = record_bytes code ((kind_of code).body h c x)

-- "It refuses 15, 16, then 1, 2, 3 for the table written or packed under, then 11, 4, 5"
unfoldable pub write_number : ℕ → Heading → Context → List ℕ → ℕ → ℕ
write_number code h c x room_bytes =
    (kind_of code).writable
    or_else (kind_of code).place c h
    or_else (kind_of code).given h c x
    or_else room_number (lent room_bytes) (length (record_for code h c x))

-- the numbers that writing a record may answer
abbrev pub written_numbers : List ℕ
written_numbers = 0 ∷ 15 ∷ 16 ∷ 1 ∷ 2 ∷ 3 ∷ 11 ∷ 4 ∷ 5 ∷ []

-- what is asked before room
pub record RecordWritable (code : ℕ) (h : Heading) (c : Context) (x : List ℕ) : Type 0 where
  pub writable : (kind_of code).writable ≡ 0
  pub place : (kind_of code).place c h ≡ 0
  pub given : (kind_of code).given h c x ≡ 0

-- ---- the call
-- a refusal has 0 for the count and in the state: a caller keeps the one that it gave
abbrev pub not_written : ℕ → RecordWritten
not_written e = record { number = e; count = 0; state = no_state }

abbrev pub record_done : ℕ → Heading → Context → List ℕ → RecordWritten
record_done code h c x =
    record { number = 0; count = length (record_for code h c x); state = state_of (after_record (kind_of code).holds h x c) }

unfoldable pub record_written : ℕ → Heading → Context → List ℕ → List ℕ → Outcome RecordWritten
record_written code h c x m =
    unless (write_number code h c x (length m)) (λ e. outcome (not_written e) m)
    (writes (record_done code h c x) (record_for code h c x) m)
