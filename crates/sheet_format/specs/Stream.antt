-- A sheet read one record at a time, as a program does that holds no more of it: of the bytes that are left it holds as many as
-- `record_span` says, judges the record there, and goes on behind it. Definitions only; their laws are in proofs/Stream/. Assumes nothing.
use Rattle.std.specs.Prelude.{ℕ, ◌+◌, ◌≡◌, cond, List, [], ◌∷◌, length, take, eqb}
use Rattle.answer.specs.Outcome.{unless}
use Rattle.sheet_format.specs.declared.SheetState.{SheetState}
use Rattle.sheet_format.specs.declared.RecordRead.{RecordRead}
use Rattle.sheet_format.specs.Context.{Context, new_sheet, state_of, context_of}
use Rattle.sheet_format.specs.Kind.{Payload, a_table, a_row, a_line, no_payload, table_kept}
use Rattle.sheet_format.specs.Kinds.{kind_of}
use Rattle.sheet_format.specs.Record.{body_of, record_span}
use Rattle.sheet_format.specs.Reading.{record_judged}
use Rattle.sheet_format.specs.Sheet.{SheetRecord, Reaches, record_here, records, row_numbers}

-- the bytes that are held of what is left
abbrev pub held_of : List ℕ → List ℕ
held_of r = take (record_span r) r

-- what a record of a kind holds, by its answer
abbrev pub holds_of : RecordRead → Payload
holds_of a = (kind_of a.kind).holds

-- whether a record counts as a row, as 1 or 0
abbrev pub rows_of : Payload → ℕ
rows_of a_table = 0
rows_of a_row = 1
rows_of a_line = 0
rows_of no_payload = 0

-- ---- what is carried from record to record: the bytes of the sheet's table, its state, and how many records and rows came before
pub record Carried : Type 0 where
  pub table : List ℕ
  pub state : SheetState
  pub index : ℕ
  pub rows : ℕ

abbrev pub carried_first : Carried
carried_first = record { table = []; state = state_of new_sheet; index = 0; rows = 0 }

-- what the sheet holds, by what is carried
abbrev pub context_by : Carried → Context
context_by p = context_of p.table p.state

-- after the record b, which was judged so
abbrev pub carried_next : Carried → List ℕ → RecordRead → Carried
carried_next p b a =
    record {
      table = table_kept (holds_of a) p.table (body_of b);
      state = a.state;
      index = p.index + 1;
      rows = p.rows + rows_of (holds_of a);
    }

-- ---- what comes next
-- ended   the sheet's end, or a refused record: the number, and the bit where its row's reading stopped
-- more    an accepted record, and what is carried on
pub data Next : Type 0 where
  ended : ℕ → ℕ → Next
  more : SheetRecord → Carried → Next

-- "A sheet with no records is refused 16"
abbrev pub end_number : ℕ → ℕ
end_number index = cond (eqb index 0) 16 0

-- with a record's bytes b, by how it was judged
abbrev pub record_next : Carried → List ℕ → RecordRead → Next
record_next p b a = unless a.number (λ e. ended e a.at) (more (record_here (context_by p) b) (carried_next p b a))

-- with the bytes that are held: none at the sheet's end
unfoldable pub next_of : Carried → List ℕ → Next
next_of p [] = ended (end_number p.index) 0
next_of p (x ∷ b) = record_next p (x ∷ b) (record_judged (context_by p) (x ∷ b))

-- ---- on the way
-- after the bytes s, p is carried: s is accepted records to its end, after which the sheet holds what p says, and p has how
-- many they are and how many of them are rows
pub record Carries (s : List ℕ) (p : Carried) : Type 0 where
  pub reached : Reaches (context_by p) [] new_sheet s
  pub index : p.index ≡ length (records new_sheet s).records
  pub rows : p.rows ≡ length (row_numbers (records new_sheet s).records)
