-- The laws of the record that was read last. Assumes nothing.
use Rattle.std.specs.Prelude.{ℕ, ◌*◌, ◌≡◌, true, false, List, [], ◌∷◌, ◌++◌, length, take}
use Rattle.std.proofs.Common.{arith, ap, ◌∙◌, length-take}
use Rattle.sheet_format.specs.declared.RecordRead.{RecordRead}
use Rattle.sheet_format.specs.Context.{new_sheet}
use Rattle.sheet_format.specs.Kind.{a_row, is_row}
use Rattle.sheet_format.specs.Kinds.{kind_of}
use Rattle.sheet_format.specs.Reading.{answer_bytes, record_content, record_judged}
use Rattle.sheet_format.specs.Sheet.{SheetRecord, record_here, record_holds, row_of, records}
use Rattle.sheet_format.specs.Stream.{context_by}
use Rattle.sheet_format.proofs.Stream.Taken.{carries-records}
use Rattle.sheet_format.proofs.Stream.Laws.{is_row-row}
use Rattle.sheet_format.proofs.Theorems.Rows.{row_small, row_count, row-bytes, row-heights}
use Rattle.sheet_format.proofs.Theorems.StoredRows.{content-size}
use Rattle.sheet_stream.specs.declared.progress.SheetProgress.{SheetProgress}
use Rattle.sheet_stream.specs.declared.step.SheetStep.{SheetStep}
use Rattle.sheet_stream.specs.Progress.{carried_by, Underway}
use Rattle.sheet_stream.specs.Step.{record_by, StepMade}
use Rattle.sheet_stream.specs.Step.Laws.{step-accepted, step-record}
use Rattle.sheet_stream.specs.AcceptedRecord.{AcceptedRecord, row_answered, AcceptedRow}

-- a step that is not the last reads such a record
pub step-next : {b : List ℕ} {p : SheetProgress} {table : List ℕ} {s : SheetStep} {table' content' : List ℕ}
    → StepMade b p table s table' content' → s.last ≡ false → Underway (carried_by p table) → AcceptedRecord b s.read content'
step-next {p = p} {table = table} step on at =
    record {
      taken = at.taken;
      carried = carried_by p table;
      carries = at.carries;
      whole = step.held;
      accepted = step-accepted step on;
      is = step-record step on;
    }

module _ {held : List ℕ} {a : RecordRead} {content : List ℕ} (x : AcceptedRecord held a content) where
  -- the sheet's records gain it
  pub next-records : (records new_sheet (x.taken ++ held)).records ≡ (records new_sheet x.taken).records ++ (record_by a held content ∷ [])
  next-records = rw x.is (carries-records x.carries held x.whole x.accepted)

  next-answer : a ≡ record_judged (context_by x.carried) held
  next-answer = ap (λ (y : SheetRecord). y.answer) x.is

  next-content : take (answer_bytes a) content ≡ record_content (context_by x.carried) held
  next-content = ap (λ (y : SheetRecord). y.content) x.is

  module _ (row : is_row (kind_of a.kind).holds ≡ true) where
    here : record_holds (record_here (context_by x.carried) held) ≡ a_row
    here = rw (← next-answer) (is_row-row (kind_of a.kind).holds row)

    bytes : answer_bytes a ≡ 2 * a.count
    bytes = rw next-answer (row-bytes (context_by x.carried) held x.accepted here)

    content-is : take (2 * a.count) content ≡ record_content (context_by x.carried) held
    content-is = rw bytes at next-content

    size : length (take (2 * a.count) content) ≡ 2 * a.count
    size =
        let whole = content-size (context_by x.carried) held x.accepted in
        rw content-is (whole ∙ rw (← next-answer) bytes)

    pub next-stands : AcceptedRow a content
    next-stands =
        let c = context_by x.carried in
        record {
          number = rw next-answer (row_small c held x.accepted here);
          few = rw next-answer (row_count c held x.accepted here);
          there = omega (arith, size, length-take (2 * a.count) content);
          low = rw content-is (row-heights c held x.accepted here);
        }

    -- it is the row that is stored
    pub next_row : row_of (record_by a held content) ≡ row_answered a content
    next_row = rw bytes
