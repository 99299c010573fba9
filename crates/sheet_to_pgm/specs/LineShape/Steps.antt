-- The shape of a sheet's rows, step by step. Assumes nothing.
use Rattle.std.specs.Prelude.{ℕ, ◌*◌, ◌≤◌, ◌≡◌, true, false, List, [], ◌∷◌, ◌++◌, length, take}
use Rattle.std.proofs.Common.{arith, subst, ◌∙◌, length-take-le}
use Rattle.std.proofs.Math.Path.{ap}
use Rattle.row_format.specs.Lists.Laws.{by-test}
use Rattle.row_pixels.specs.Laws.{length-halves}
use Rattle.sheet_format.specs.Context.{new_sheet}
use Rattle.sheet_format.specs.Kind.{Payload, a_row, is_row}
use Rattle.sheet_format.specs.Kinds.{kind_of}
use Rattle.sheet_format.specs.Sheet.{SheetRead, StoredRow, record_holds, row_of, with_row, stored_rows, records}
use Rattle.sheet_format.specs.Sheet.Laws.{records-end}
use Rattle.sheet_format.specs.Stream.{Carried}
use Rattle.sheet_format.proofs.Stream.Laws.{is_row-row}
use Rattle.sheet_format.proofs.Stream.Settled.{stored_rows-append}
use Rattle.sheet_format.proofs.Stream.Taken.{carries-none}
use Rattle.sheet_format.specs.Size.{rows_height}
use Rattle.sheet_stream.specs.declared.progress.SheetProgress.{SheetProgress}
use Rattle.sheet_stream.specs.declared.step.SheetStep.{SheetStep}
use Rattle.sheet_stream.specs.Progress.{carried_by, Underway}
use Rattle.sheet_stream.specs.Progress.Laws.{progress_first}
use Rattle.sheet_stream.specs.Step.{record_by, StepMade}
use Rattle.sheet_stream.specs.Step.Laws.{step-sheet, step-records, step-carries}
use Rattle.sheet_stream.specs.Step.Rows.{rowless-next, rowless-same, row-least, row_next}
use Rattle.sheet_stream.specs.AcceptedRecord.{row_answered}
use Rattle.sheet_stream.specs.AcceptedRecord.Laws.{step-next, next-stands, next_row}
use Rattle.sheet_to_pgm.specs.declared.shape.LineShape.{LineShape}
use Rattle.sheet_to_pgm.specs.LineShape.{ShapeOf, shape_none, shape_with, shape_after, ShapeUnderway, ShapeFound}
use Rattle.sheet_to_pgm.specs.LineShape.Laws.{shape-none, shape-more, count-behind}

pub shape-first : (table : List ℕ) → ShapeUnderway (carried_by progress_first table) shape_none
unfolding stored_rows rows_height
shape-first table =
    record {
      taken = [];
      carries = carries-none;
      least = rw (records-end new_sheet) (omega arith);
      shape = rw (records-end new_sheet) shape-none;
    }

-- on the way
shape-way : {p : Carried} {s : LineShape} → ShapeUnderway p s → Underway p
shape-way at = record { taken = at.taken; carries = at.carries }

one-row : (s : Payload) (y : StoredRow) → s ≡ a_row → with_row s y [] ≡ y ∷ []
one-row s y row = rw row

module _ {b : List ℕ} {p : SheetProgress} {table : List ℕ} {s : SheetStep} {table' content' : List ℕ} {shape : LineShape}
    (at : ShapeUnderway (carried_by p table) shape) (step : StepMade b p table s table' content') where
  abbrev before : List StoredRow
  before = stored_rows (records new_sheet at.taken).records

  module _ (on : s.last ≡ false) where
    module _ (row : is_row (kind_of s.read.kind).holds ≡ true) where
      -- the row is one more
      rows-gain : stored_rows (records new_sheet (at.taken ++ b)).records ≡ before ++ (row_answered s.read content' ∷ [])
      unfolding stored_rows
      rows-gain =
          let x = record_by s.read b content' in
          let next = step-next step on (shape-way at) in
          ap stored_rows (step-records step on at.carries)
          ∙ stored_rows-append (records new_sheet at.taken).records (x ∷ [])
          ∙ ap (before ++◌)
          (one-row (record_holds x) (row_of x) (is_row-row (kind_of s.read.kind).holds row) ∙ ap (◌∷ []) (next_row next row))

      heights-count : length (row_answered s.read content').heights ≡ s.read.count
      heights-count =
          let stands = next-stands (step-next step on (shape-way at)) row in
          let size : length (take (2 * s.read.count) content') ≡ 2 * s.read.count =
          length-take-le (2 * s.read.count) content' stands.there in
          omega (arith, length-halves (take (2 * s.read.count) content'), size)

      shape_row : ShapeUnderway (carried_by s.next table') (shape_with shape s.read.row s.read.count)
      shape_row =
          let y = row_answered s.read content' in
          let behind : rows_height before ≤ s.read.row = omega (arith, at.least, row-least step on row) in
          record {
            taken = at.taken ++ b;
            carries = step-carries step on at.carries;
            least = rw (rows-gain, count-behind before y behind, row_next step on row) (omega arith);
            shape =
                rw rows-gain
                (subst (λ (n : ℕ). ShapeOf (shape_with shape s.read.row n) (before ++ (y ∷ []))) heights-count
                (shape-more before y behind at.shape));
          }

    module _ (other : is_row (kind_of s.read.kind).holds ≡ false) where
      shape-rowless : ShapeUnderway (carried_by s.next table') shape
      shape-rowless =
          let same = rowless-same step on other at.carries in
          record {
            taken = at.taken ++ b;
            carries = step-carries step on at.carries;
            least = rw (same, rowless-next step on other at.carries) at.least;
            shape = rw same at.shape;
          }

    pub shape-next : ShapeUnderway (carried_by s.next table') (shape_after shape s.read)
    shape-next =
        by-test (is_row (kind_of s.read.kind).holds) (λ row. rw row (shape_row row)) (λ other. rw other (shape-rowless other))

  -- the sheet ends, and is accepted
  pub shape-found : s.last ≡ true → s.read.number ≡ 0 → ShapeFound shape
  shape-found last ok =
      let sheet = step-sheet step last at.carries in
      record {
        sheet = at.taken ++ b;
        accepted = ap (λ (x : SheetRead). x.number) sheet ∙ ok;
        shape = rw sheet at.shape;
      }
