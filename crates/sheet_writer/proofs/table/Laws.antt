-- How a table's record stands. Assumes nothing.
use Prim.Native.Nat.{ℕ, ◌+◌}
use mathlib.Core.Path.{refl}
use mathlib.Core.List.{List}
use lib.ListN.{length}
use Rattle.sheet_format.specs.Context.{Heading, Context}
use Rattle.sheet_writer.specs.Fields.{record_fields}
use Rattle.sheet_writer.specs.Fields.Laws.{length-record_fields, record-fields}
use Rattle.sheet_writer.proofs.Frame.{Frame}

pub table-frame : (h : Heading) (c : Context) (x : List ℕ) → Frame 1 h c x (record_fields 1 (6 + length x)) x 6
table-frame h c x = record { known = refl; bytes = record-fields 1 x; fields = length-record_fields 1 (6 + length x) }
