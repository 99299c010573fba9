-- `code_table::check::well_sized` meets its contract: by the tests of `wrong_size`, in their order. Assumes nothing.
use native.Mathlib.Omega.{arith}
use Rattle.code_table.specs.Check.Laws.{size-short, size_small, size-large}
use Rattle.code_table.proofs.check.WellSizedLaws.{size-bytes}
use Rattle.code_table.proofs.check.well_sized.Goals as goal

pub returns-then-table-lt24 : goal.returns-then-table-lt24
returns-then-table-lt24 c = size-short c.args.table.now (omega arith)

pub returns-then-size-lt1 : goal.returns-then-size-lt1
returns-then-size-lt1 c = size_small c.args.table.now (omega arith)

pub returns-then-low-size-gt8187 : goal.returns-then-low-size-gt8187
returns-then-low-size-gt8187 c = size-large c.args.table.now (omega arith)

pub returns : goal.returns
returns c = size-bytes c.args.table.now c.table_size-size.result c.table_size-size.ensures
    (omega arith) (omega arith)
