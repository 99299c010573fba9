-- What judging and reading a record leave: the answer, and the memory lent for the content. Assumes nothing.
use Rattle.std.specs.Prelude.{ℕ, ◌≤◌, ◌≡◌, List, length}
use Rattle.answer.specs.Outcome.{outcome, writes, ◌or_else◌, unless, nothing, lent}
use Rattle.bitstream.specs.Bits.{words_for}
use Rattle.sheet_format.specs.declared.SheetState.{SheetState}
use Rattle.sheet_format.specs.declared.RecordRead.{RecordRead}
use Rattle.sheet_format.specs.Context.{Context}
use Rattle.sheet_format.specs.Kind.{Kind}
use Rattle.sheet_format.specs.Kind.Table.{table_kind}
use Rattle.sheet_format.specs.Kinds.{kind_of}
use Rattle.sheet_format.specs.Record.{content_number, record_number}
use Rattle.sheet_format.specs.Reading.{body_held, record_held, record_content, refused_record, record_stop}
pub mod Laws

-- what is answered of a record that is accepted: its kind, row, count and bits, its bytes, and the state after it
abbrev pub accepted_record : ℕ → ℕ → ℕ → ℕ → ℕ → SheetState → RecordRead
accepted_record kind row count bits whole after =
    record {
      number = 0;
      kind = kind;
      row = row;
      count = count;
      bits = bits;
      words = words_for bits;
      length = whole;
      state = after;
      at = 0;
    }

-- what a reading leaves whose number is e, which stops at the bit place s, and which holds a and the content d where e is 0:
-- the answer x, and m' of the memory m. Where m has less than the room asked for, the record is only judged, and nothing is said
-- of the memory
pub record Leaves (e s : ℕ) (a : RecordRead) (d : List ℕ) (room : ℕ) (m : List ℕ) (x : RecordRead) (m' : List ℕ) : Type 0 where
  pub answer : x ≡ unless e (refused_record s) a
  pub memory : room ≤ length m → outcome x m' ≡ unless e (λ k. outcome (refused_record s k) m) (writes a d m)

-- of the content of a record, its kind known, in a sheet that holds c
pub record ContentLeaves (k : Kind) (room code whole : ℕ) (c : Context) (b m : List ℕ) (x : RecordRead) (m' : List ℕ) : Type 0 where
  pub leaves : Leaves (content_number k (lent room) c b) (k.stop c b) (body_held k code whole c b) (k.content c b) room m x m'

-- of a record, its length known
pub record BodyLeaves (room code whole : ℕ) (c : Context) (b m : List ℕ) (x : RecordRead) (m' : List ℕ) : Type 0 where
  pub leaves : Leaves ((kind_of code).readable or_else content_number (kind_of code) (lent room) c b) ((kind_of code).stop c b)
      (body_held (kind_of code) code whole c b) ((kind_of code).content c b) room m x m'

-- of a record
pub record RecordLeaves (room : ℕ) (c : Context) (r m : List ℕ) (x : RecordRead) (m' : List ℕ) : Type 0 where
  pub leaves : Leaves (record_number (lent room) c r) (record_stop c r) (record_held c r) (record_content c r) room m x m'

-- of a table nothing is written, and no room is asked
abbrev pub table_judged : ℕ → Context → List ℕ → RecordRead
table_judged whole c b = unless (content_number table_kind nothing c b) (refused_record 0) (body_held table_kind 1 whole c b)
