-- The laws of a step that brings a row, and of one that brings none: the row's limits, and which rows of the sheet are settled,
-- whatever follows. Assumes nothing.
use Rattle.std.specs.Prelude.{ℕ, ◌+◌, ◌*◌, ◌≤◌, ◌<◌, ◌≡◌, true, false, List, ◌++◌, take}
use Rattle.std.proofs.Common.{sym, ap, ◌∙◌}
use Rattle.bitstream.specs.Bits.{halves_of, Below}
use Rattle.sheet_format.specs.declared.RecordRead.{RecordRead}
use Rattle.sheet_format.specs.Context.{new_sheet}
use Rattle.sheet_format.specs.Kind.{a_row, is_row}
use Rattle.sheet_format.specs.Reading.{answer_bytes, record_content, record_judged}
use Rattle.sheet_format.specs.Sheet.{SheetRead, records, sheet_read, stored_rows, absent, present, heights_of}
use Rattle.sheet_format.specs.Stream.{holds_of, context_by, Carries}
use Rattle.sheet_format.proofs.Stream.Laws.{is_row-row}
use Rattle.sheet_format.proofs.Stream.Settled.{heights-none, settled-row, settled-gap, least-same, rows_same}
use Rattle.sheet_format.proofs.Theorems.Rows as rows
use Rattle.sheet_stream.specs.declared.progress.SheetProgress.{SheetProgress}
use Rattle.sheet_stream.specs.declared.step.SheetStep.{SheetStep}
use Rattle.sheet_stream.specs.Progress.{carried_by}
use Rattle.sheet_stream.specs.Step.{StepMade}
use Rattle.sheet_stream.specs.Step.Laws.{step-sheet, step-accepted, step-read, step-content, step-state}

module _ {b : List ℕ} {p : SheetProgress} {table : List ℕ} {s : SheetStep} {table' content' : List ℕ}
    (step : StepMade b p table s table' content') where
  -- ---- the sheet ends: no row from the least number on is there
  pub end_none : s.last ≡ true → {t : List ℕ} → Carries t (carried_by p table) → (n : ℕ) → p.state.least_row ≤ n
      → heights_of n (stored_rows (sheet_read (t ++ b)).records) ≡ absent
  end_none last at n least =
      ap (λ (x : SheetRead). heights_of n (stored_rows x.records)) (step-sheet step last at) ∙ heights-none at n least

  module _ (on : s.last ≡ false) where
    -- ---- a record without a row
    module _ (other : is_row (holds_of s.read) ≡ false) where
      rowless : is_row (holds_of (record_judged (context_by (carried_by p table)) b)) ≡ false
      rowless = ap (λ (a : RecordRead). is_row (holds_of a)) (sym (step-read step on)) ∙ other

      pub rowless-next : {t : List ℕ} → Carries t (carried_by p table) → s.next.state.least_row ≡ p.state.least_row
      rowless-next at = rw (step-state step on, step-read step on) (least-same at b step.held (step-accepted step on) rowless)

      pub rowless-same : {t : List ℕ} → Carries t (carried_by p table)
          → stored_rows (records new_sheet (t ++ b)).records ≡ stored_rows (records new_sheet t).records
      rowless-same at = rows_same at b step.held (step-accepted step on) rowless

    -- ---- a row
    module _ (row : is_row (holds_of s.read) ≡ true) where
      is-row : holds_of (record_judged (context_by (carried_by p table)) b) ≡ a_row
      is-row = ap holds_of (sym (step-read step on)) ∙ is_row-row (holds_of s.read) row

      abbrev same : s.read ≡ record_judged (context_by (carried_by p table)) b
      same = step-read step on

      pub row-least : p.state.least_row ≤ s.read.row
      row-least = rw same (rows.row-least _ b (step-accepted step on) is-row)

      pub row_small : s.read.row < 65536
      row_small = rw same (rows.row_small _ b (step-accepted step on) is-row)

      pub row_next : s.next.state.least_row ≡ s.read.row + 1
      row_next = rw (step-state step on, same) (rows.row_next _ b (step-accepted step on) is-row)

      pub row_count : s.read.count ≤ 4096
      row_count = rw same (rows.row_count _ b (step-accepted step on) is-row)

      row-bytes : answer_bytes s.read ≡ 2 * s.read.count
      row-bytes = rw same (rows.row-bytes _ b (step-accepted step on) is-row)

      row-content : take (2 * s.read.count) content' ≡ record_content (context_by (carried_by p table)) b
      row-content = ap (λ (n : ℕ). take n content') (sym row-bytes) ∙ step-content step on

      pub row-heights : Below 4096 (halves_of (take (2 * s.read.count) content'))
      row-heights = rw row-content (rows.row-heights _ b (step-accepted step on) is-row)

      -- after the bytes t, and whatever follows, it stands in the sheet under its number; the numbers that it passes over do not
      module _ {t : List ℕ} (at : Carries t (carried_by p table)) (rest : List ℕ) where
        pub row-there : heights_of s.read.row (stored_rows (sheet_read (t ++ b ++ rest)).records)
            ≡ present (halves_of (take (2 * s.read.count) content'))
        row-there = rw (row-content, same) (settled-row at b step.held (step-accepted step on) is-row rest)

        pub gap-absent : (n : ℕ) → p.state.least_row ≤ n → n < s.read.row
            → heights_of n (stored_rows (sheet_read (t ++ b ++ rest)).records) ≡ absent
        gap-absent n least less = settled-gap at b step.held (step-accepted step on) is-row n least (rw same at less) rest
