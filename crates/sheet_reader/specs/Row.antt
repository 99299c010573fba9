-- The fields of a row's body, as they are read. Assumes nothing.
use Rattle.std.specs.Prelude.{ℕ, ◌≤◌, ◌<◌, ◌≡◌, List, length, Result, IfOk}
use Rattle.answer.specs.declared.refusal.Refusal.{Refusal}
use Rattle.answer.specs.Outcome.{◌or_else◌}
use Rattle.answer.specs.Refusal.{result_number}
use Rattle.sheet_format.specs.declared.SheetState.{SheetState}
use Rattle.sheet_format.specs.Context.{Context, state_of}
use Rattle.sheet_format.specs.Fields.{shorter_than}
use Rattle.sheet_format.specs.Kind.Row.{row_heading, pixel_count, row_place}
use Rattle.sheet_reader.specs.declared.row.RowFields.{RowFields}

-- r has the fields of a row's body b
pub record HasRowFields (b : List ℕ) (r : RowFields) : Type 0 where
  pub there : 4 ≤ length b
  pub row : r.row ≡ (row_heading b).row
  pub count : r.count ≡ pixel_count b
  pub small : r.row < 65536

-- r has them, unless they are refused, missing or out of place, in every sheet of the state st
pub record RowFieldsOf (b : List ℕ) (st : SheetState) (r : Result RowFields Refusal) : Type 0 where
  pub number : (c : Context) → state_of c ≡ st → result_number r ≡ shorter_than 4 b or_else row_place c (row_heading b)
  pub fields : IfOk r (HasRowFields b)
