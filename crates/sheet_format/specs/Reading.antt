-- Document 01, "A sheet": what judging and reading a record answer, the memory lent for its content included. r is the
-- sheet's bytes from the record's place on, b the record's body, c what the sheet holds so far, m the memory lent, as it was.
-- Definitions only. Assumes nothing.
use Rattle.std.specs.Prelude.{ℕ, ◌+◌, ◌*◌, ◌≡◌, List, [], ◌∷◌, length}
use Rattle.bitstream.specs.Bits.{words_for}
use Rattle.row_format.specs.Place.{place_shown}
use Rattle.answer.specs.Outcome.{Outcome, outcome, writes, unless, nothing, lent}
use Rattle.sheet_format.specs.declared.RecordRead.{RecordRead}
use Rattle.row_format.specs.declared.RowUnpacked.{RowUnpacked}
use Rattle.row_format.specs.Calls.{unpacked}
use Rattle.sheet_format.specs.Context.{Context, no_state, state_of, table_for}
use Rattle.sheet_format.specs.Kind.{Kind, after_record}
use Rattle.sheet_format.specs.Kind.Row.{row_heading, pixel_count, row_content}
use Rattle.sheet_format.specs.Kind.PackedRow.{packed_kind}
use Rattle.sheet_format.specs.Kinds.{kind_of}
use Rattle.sheet_format.specs.Record.{length_field, kind_field, body_of, length_number, record_number}
pub mod Laws

-- ---- what an accepted record holds
-- what the sheet holds after it
abbrev pub after_body : Kind → List ℕ → Context → Context
after_body k b c = after_record k.holds (k.heading b) b c

abbrev pub body_held : Kind → ℕ → ℕ → Context → List ℕ → RecordRead
body_held k code whole c b =
    record {
      number = 0;
      kind = code;
      row = (k.heading b).row;
      count = k.count b;
      bits = k.bits c b;
      words = words_for (k.bits c b);
      length = whole;
      state = state_of (after_body k b c);
      at = 0;
    }

unfoldable pub record_held : Context → List ℕ → RecordRead
record_held c r = body_held (kind_of (kind_field r)) (kind_field r) (4 + length_field r) c (body_of r)

-- its content: 2 bytes a pixel, 4 a number
unfoldable pub record_content : Context → List ℕ → List ℕ
record_content c r = (kind_of (kind_field r)).content c (body_of r)

-- the bytes that a record's content takes, by its answer
abbrev pub answer_bytes : RecordRead → ℕ
answer_bytes a = (kind_of a.kind).each * a.count

-- what the sheet holds after the record at r
unfoldable pub context_after : Context → List ℕ → Context
context_after c r = after_body (kind_of (kind_field r)) (body_of r) c

-- ---- the calls
-- the numbers that judging a record may answer; reading it may also answer 5
abbrev pub judged_numbers : List ℕ
judged_numbers = 0 ∷ 14 ∷ 15 ∷ 16 ∷ 1 ∷ 2 ∷ 3 ∷ 11 ∷ 6 ∷ 7 ∷ 8 ∷ 9 ∷ 10 ∷ 4 ∷ 12 ∷ 13 ∷ []

-- where reading stopped at a place. "Every refusal returns 0 for all counts and values", the state too: a caller keeps the one
-- that it gave; but for the place of 6 to 10
abbrev pub refused_record : ℕ → ℕ → RecordRead
refused_record at e =
    record {
      number = e;
      kind = 0;
      row = 0;
      count = 0;
      bits = 0;
      words = 0;
      length = 0;
      state = no_state;
      at = place_shown e at;
    }

-- the bit place where reading the record at r stops, "counted from the row's first word"
unfoldable pub record_stop : Context → List ℕ → ℕ
record_stop c r = (kind_of (kind_field r)).stop c (body_of r)

-- the record at r is a packed row, and a call comes to read its words: length, kind, fields and place are in order
pub record ReachesRow (c : Context) (r : List ℕ) : Type 0 where
  pub size : length_number r ≡ 0
  pub kind : kind_field r ≡ 2
  pub fixed : packed_kind.fixed (body_of r) ≡ 0
  pub place : packed_kind.place c (row_heading (body_of r)) ≡ 0

-- the row call on those words, under the table that the row uses
abbrev pub row_call : Context → List ℕ → List ℕ → Outcome RowUnpacked
row_call c r m = unpacked (table_for c (row_heading (body_of r))) (row_content (body_of r)) (pixel_count (body_of r)) m

-- a record judged: no memory is lent
unfoldable pub record_judged : Context → List ℕ → RecordRead
record_judged c r = unless (record_number nothing c r) (refused_record (record_stop c r)) (record_held c r)

-- a record read: its content stands at the front of the lent memory
unfoldable pub record_read : Context → List ℕ → List ℕ → Outcome RecordRead
record_read c r m =
    unless (record_number (lent (length m)) c r) (λ e. outcome (refused_record (record_stop c r) e) m)
    (writes (record_held c r) (record_content c r) m)
