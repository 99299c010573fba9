-- One step through a sheet, by value: the record's bytes, its content and the table stand in lent memory. Definitions only; their
-- laws, by which a loop goes on, are in Step/. Assumes nothing.
use Rattle.std.specs.Prelude.{ℕ, ◌≡◌, true, false, cond, List, take}
use Rattle.sheet_format.specs.declared.RecordRead.{RecordRead}
use Rattle.sheet_format.specs.Reading.{answer_bytes}
use Rattle.sheet_format.specs.Sheet.{SheetRecord}
use Rattle.sheet_format.specs.Stream.{held_of, Next, ended, more, next_of}
use Rattle.sheet_stream.specs.declared.progress.SheetProgress.{SheetProgress}
use Rattle.sheet_stream.specs.declared.step.SheetStep.{SheetStep}
use Rattle.sheet_stream.specs.Progress.{carried_by}
pub mod Laws
pub mod Rows

-- the record with the bytes b that was answered so: its content is at the front of the memory for it
abbrev pub record_by : RecordRead → List ℕ → List ℕ → SheetRecord
record_by a b content = record { answer = a; content = take (answer_bytes a) content; bytes = take a.length b }

-- what comes next, as a step says it
abbrev pub next_by : SheetStep → List ℕ → List ℕ → List ℕ → Next
next_by s b table content =
    cond s.last (ended s.read.number s.read.at) (more (record_by s.read b content) (carried_by s.next table))

-- the step at which the sheet ends
abbrev pub end_step : ℕ → RecordRead → SheetProgress → SheetStep
end_step taken read p = record { last = true; taken = taken; read = read; next = p }

-- with the bytes b, which are what is held of a record, the step says what comes next; at the end all is carried that was
pub record StepMade (b : List ℕ) (p : SheetProgress) (table : List ℕ) (s : SheetStep) (table' content' : List ℕ) : Type 0 where
  pub held : b ≡ held_of b
  pub made : next_by s b table' content' ≡ next_of (carried_by p table) b
  pub still : s.last ≡ true → (s.next ≡ p) × (table' ≡ table)
