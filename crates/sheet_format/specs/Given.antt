-- What a written record, and a sheet of written records, is to be read as, from what the writer was given.
-- Definitions only. Assumes nothing.
use Rattle.std.specs.Prelude.{ℕ, ◌≡◌, List, [], ◌∷◌, ◌++◌, take}
use Rattle.bitstream.specs.Bits.{words_for, Below}
use Rattle.answer.specs.Outcome.{Outcome}
use Rattle.sheet_format.specs.declared.RecordRead.{RecordRead}
use Rattle.sheet_format.specs.declared.RecordWritten.{RecordWritten}
use Rattle.sheet_format.specs.Context.{Heading, Context}
use Rattle.sheet_format.specs.Kind.{after_record, heading_kept, content_given}
use Rattle.sheet_format.specs.Kinds.{kind_of}
use Rattle.sheet_format.specs.Writing.{record_written}
use Rattle.sheet_format.specs.Sheet.{SheetRecord}

-- a is what the writer answered: its count is the record's length, its state is the sheet's after the record
abbrev pub record_given : ℕ → Heading → Context → List ℕ → RecordWritten → RecordRead
record_given code h c x a =
    record {
      number = 0;
      kind = code;
      row = (heading_kept (kind_of code).holds h).row;
      count = (kind_of code).given_count x;
      bits = (kind_of code).given_bits h c x;
      words = words_for ((kind_of code).given_bits h c x);
      length = a.count;
      state = a.state;
      at = 0;
    }

-- ---- records written one after another
-- what the writer is given for a record, beside what the sheet holds so far
pub record Write : Type 0 where
  pub kind : ℕ
  pub heading : Heading
  pub content : List ℕ
  pub memory : List ℕ

abbrev pub written_by : Context → Write → Outcome RecordWritten
written_by c w = record_written w.kind w.heading c w.content w.memory

-- what the sheet holds after it
abbrev pub context_written : Context → Write → Context
context_written c w = after_record (kind_of w.kind).holds w.heading w.content c

-- the bytes that it wrote
abbrev pub bytes_written : Context → Write → List ℕ
bytes_written c w = take (written_by c w).answer.count (written_by c w).memory

pub record Done (c : Context) (w : Write) : Type 0 where
  pub bytes : Below 256 w.content
  pub done : (written_by c w).answer.number ≡ 0

-- each is done in what the one before left
abbrev pub AllDone : Context → List Write → Type 0
AllDone c [] = Unit {0}
AllDone c (w ∷ ws) = Done c w × AllDone (context_written c w) ws

unfoldable pub sheet_bytes : Context → List Write → List ℕ
sheet_bytes c [] = []
sheet_bytes c (w ∷ ws) = bytes_written c w ++ sheet_bytes (context_written c w) ws

-- the record that is to be read
abbrev pub given_by : Context → Write → SheetRecord
given_by c w = record {
  answer = record_given w.kind w.heading c w.content (written_by c w).answer;
  content = content_given (kind_of w.kind) w.content;
  bytes = bytes_written c w;
}

unfoldable pub sheet_given : Context → List Write → List SheetRecord
sheet_given c [] = []
sheet_given c (w ∷ ws) = given_by c w ∷ sheet_given (context_written c w) ws
