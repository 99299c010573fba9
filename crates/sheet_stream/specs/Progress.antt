-- What is carried from record to record, by value: the sheet's table stands in lent memory. Definitions only; their laws are in
-- Progress/Laws.antt. Assumes nothing.
use Rattle.std.specs.Prelude.{ℕ, ◌+◌, ◌-◌, ◌≤◌, List, length, take, drop}
use Rattle.sheet_format.specs.declared.RecordRead.{RecordRead}
use Rattle.sheet_format.specs.Kind.{table_kept}
use Rattle.sheet_format.specs.Stream.{rows_of, holds_of, Carried, Carries}
use Rattle.sheet_stream.specs.declared.progress.SheetProgress.{SheetProgress}
pub mod Laws

-- the sheet's table is at the front of the memory for it
abbrev pub carried_by : SheetProgress → List ℕ → Carried
carried_by p table = record { table = take p.kept table; state = p.state; index = p.index; rows = p.rows }

-- the table after the record b, which was judged so: what was kept before, or what follows the six bytes of length and kind
abbrev pub table_after : RecordRead → List ℕ → List ℕ → List ℕ
table_after a kept b = table_kept (holds_of a) kept (take (a.length - 6) (drop 6 b))

-- what is carried on behind the record b, which was accepted so: one record more, and a row more where it is one
abbrev pub carried_after : Carried → RecordRead → List ℕ → Carried
carried_after p a b =
    record {
      table = table_after a p.table b;
      state = a.state;
      index = p.index + 1;
      rows = p.rows + rows_of (holds_of a);
    }

-- the table is within its memory, and there are no more rows than records, so that no sum runs over
pub record CarriedFits (p : SheetProgress) (table : List ℕ) : Type 0 where
  pub kept : p.kept ≤ length table
  pub rows : p.rows ≤ p.index

-- some bytes were taken, and p is what is carried after them
pub record Underway (p : Carried) : Type 0 where
  pub taken : List ℕ
  pub carries : Carries taken p
