-- The laws of what is carried: at the start, and behind an accepted record. Assumes nothing.
use Rattle.std.specs.Prelude.{ℕ, ◌+◌, ◌≡◌, refl, List, []}
use Rattle.std.proofs.Common.{arith}
use Rattle.sheet_format.specs.declared.RecordRead.{RecordRead}
use Rattle.sheet_format.specs.Context.{new_sheet, state_of}
use Rattle.sheet_format.specs.Reading.{record_judged}
use Rattle.sheet_format.specs.Reading.Laws.{judged-body}
use Rattle.sheet_format.specs.Stream.{rows_of, holds_of, Carried, context_by, carried_next}
use Rattle.sheet_format.proofs.Stream.Taken.{carries-none}
use Rattle.sheet_stream.specs.declared.progress.SheetProgress.{SheetProgress}
use Rattle.sheet_stream.specs.Progress.{carried_by, table_after, carried_after, CarriedFits, Underway}

-- ---- at the start
abbrev pub progress_first : SheetProgress
progress_first = record { state = state_of new_sheet; kept = 0; index = 0; rows = 0 }

pub fits-first : (table : List ℕ) → CarriedFits progress_first table
fits-first table = record { kept = omega arith; rows = omega arith }

pub underway-first : (table : List ℕ) → Underway (carried_by progress_first table)
underway-first table = record { taken = []; carries = carries-none }

-- ---- what is carried on behind the accepted record r, from the parts that code makes
pub carried-next : (p : Carried) (r : List ℕ) {a : RecordRead} {table : List ℕ} {rows : ℕ} → a ≡ record_judged (context_by p) r
    → (record_judged (context_by p) r).number ≡ 0
    → table ≡ table_after a p.table r
    → rows ≡ p.rows + rows_of (holds_of a)
    → (let next : Carried = record { table = table; state = a.state; index = p.index + 1; rows = rows } in next)
    ≡ carried_next p r (record_judged (context_by p) r)
carried-next p r is ok is-table is-rows = rw (is-table, is-rows, is, judged-body (context_by p) r ok)

-- the same, from what it is said to be
pub carried-after : (p : Carried) (r : List ℕ) {a : RecordRead} → a ≡ record_judged (context_by p) r
    → (record_judged (context_by p) r).number ≡ 0
    → carried_after p a r ≡ carried_next p r (record_judged (context_by p) r)
carried-after p r is ok = carried-next p r is ok refl refl
