-- The shape of a sheet's rows as lines, as it is found a row at a time: rows come in the order of their numbers. Definitions only;
-- their laws are in LineShape/Laws.antt. Assumes nothing.
use Rattle.std.specs.Prelude.{ℕ, ◌+◌, ◌≤◌, max, ◌≡◌, cond, List, ltb, eqb, Option, Some, None}
use Rattle.std.specs.Option.{option_or}
use Rattle.sheet_format.specs.declared.RecordRead.{RecordRead}
use Rattle.sheet_format.specs.Context.{new_sheet}
use Rattle.sheet_format.specs.Kind.{is_row}
use Rattle.sheet_format.specs.Kinds.{kind_of}
use Rattle.sheet_format.specs.Sheet.{StoredRow, heights_of, records, stored_rows, sheet_read}
use Rattle.sheet_format.specs.Stream.{Carried, Carries}
use Rattle.sheet_format.specs.Size.{rows_width, rows_height}
use Rattle.pgm_format.specs.Shape.{LineFault, no_fault, row_missing, row_unequal, heights_in, sheet_fault}
use Rattle.sheet_to_pgm.specs.declared.shape.RowFault.{RowFault}
use Rattle.sheet_to_pgm.specs.declared.shape.RowFault.TheVariants.{Missing, Unequal}
use Rattle.sheet_to_pgm.specs.declared.shape.LineShape.{LineShape}
pub mod Laws
pub mod Steps

-- the fault that is meant
abbrev pub fault_said : Option RowFault → LineFault
fault_said None = no_fault
fault_said (Some (Missing n)) = row_missing n
fault_said (Some (Unequal n k w)) = row_unequal n k w

-- of some rows
pub record ShapeOf (s : LineShape) (ys : List StoredRow) : Type 0 where
  pub width : s.width ≡ rows_width ys
  pub count : s.count ≡ rows_height ys
  pub first : s.first ≡ heights_in (heights_of 0 ys)
  pub fault : fault_said s.fault ≡ sheet_fault ys

-- ---- a row at a time
abbrev pub shape_none : LineShape
shape_none = record { width = 0; count = 0; first = 0; fault = None }

-- of row n with k heights, where c is the next number and row 0 has w heights
abbrev pub fault_with : ℕ → ℕ → ℕ → ℕ → Option RowFault
fault_with c n k w = cond (ltb c n) (Some (Missing c)) (cond (eqb k w) None (Some (Unequal n k w)))

abbrev pub first_with : ℕ → ℕ → ℕ → ℕ
first_with w n k = cond (eqb n 0) k w

-- with row n, which has k heights
abbrev pub shape_with : LineShape → ℕ → ℕ → LineShape
shape_with s n k =
    let first : ℕ = first_with s.first n k in
    record {
      width = max s.width k;
      count = n + 1;
      first = first;
      fault = option_or s.fault (fault_with s.count n k first);
    }

-- with an accepted record that was answered so
abbrev pub shape_after : LineShape → RecordRead → LineShape
shape_after s a = cond (is_row (kind_of a.kind).holds) (shape_with s a.row a.count) s

-- ---- what is known of it
-- after some bytes that were taken p is carried, and s is the shape of their rows, none of which has a number from the least on
pub record ShapeUnderway (p : Carried) (s : LineShape) : Type 0 where
  pub taken : List ℕ
  pub carries : Carries taken p
  pub least : rows_height (stored_rows (records new_sheet taken).records) ≤ p.state.least_row
  pub shape : ShapeOf s (stored_rows (records new_sheet taken).records)

-- it is the shape of an accepted sheet
pub record ShapeFound (s : LineShape) : Type 0 where
  pub sheet : List ℕ
  pub accepted : (sheet_read sheet).number ≡ 0
  pub shape : ShapeOf s (stored_rows (sheet_read sheet).records)
