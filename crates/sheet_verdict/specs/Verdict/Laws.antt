-- The laws of a sheet's verdict. Assumes nothing.
use Rattle.std.specs.Prelude.{ℕ, ◌≡◌, true, List}
use Rattle.std.proofs.Common.{sym, ap}
use Rattle.sheet_listing.specs.Line.{last_line}
use Rattle.sheet_listing.specs.Turns.{Turned, turn_for, EndLine}
use Rattle.sheet_listing.specs.Turns.Taken.{end_line}
use Rattle.sheet_stream.specs.declared.progress.SheetProgress.{SheetProgress}
use Rattle.sheet_stream.specs.declared.step.SheetStep.{SheetStep}
use Rattle.sheet_stream.specs.Progress.{carried_by, Underway}
use Rattle.sheet_stream.specs.Step.{StepMade}
use Rattle.sheet_stream.specs.Step.Laws.{step-ended}
use Rattle.sheet_verdict.specs.Verdict.{SheetEnds}

-- the last step on the way says how the sheet ends
pub step-ends : {b : List ℕ} {p : SheetProgress} {table : List ℕ} {s : SheetStep} {table' content' : List ℕ}
    → StepMade b p table s table' content' → s.last ≡ true → Underway (carried_by p table) → SheetEnds b s
step-ends {p = p} {table = table} step last at =
    let same = sym (step.still last).0 in
    record {
      taken = at.taken;
      carried = carried_by p table;
      carries = at.carries;
      whole = step.held;
      ends = step-ended step last;
      index = ap (λ (q : SheetProgress). q.index) same;
      rows = ap (λ (q : SheetProgress). q.rows) same;
    }

-- and its line is the last of the sheet's listing
pub ends-line : {held l : List ℕ} {s : SheetStep} → SheetEnds held s
    → l ≡ last_line s.read.number s.read.at s.next.index s.next.rows → EndLine held l
ends-line {held} ends line =
    let turn = ap (turn_for ends.carried) ends.ends in
    end_line ends.carries held ends.whole (rw (ends.ends, ends.index, ends.rows) line)
    (ap (λ (t : Turned). t.last) turn)
