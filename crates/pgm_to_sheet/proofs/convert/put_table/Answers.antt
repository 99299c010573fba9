-- `pgm_to_sheet::convert::put_table` meets its contract. Assumes nothing.
use native.Mathlib.Omega.{arith}
use Rattle.pgm_to_sheet.specs.Picture.Calls.{table-accepted, table-put, table-within}
use Rattle.pgm_to_sheet.proofs.convert.put_table.Goals as goal

pub returns-clause-bytes : goal.returns-clause-bytes
returns-clause-bytes c =
    table-put c.args.table.bytes.now (table-accepted c.args.table.bytes.now c.args.table.accepted) c.args.out.now
    (omega (arith, c.args.table.short)) c.write_record-written.ensures

pub returns-clause-within : goal.returns-clause-within
returns-clause-within c =
    omega (
      arith,
      table-within c.args.table.bytes.now (table-accepted c.args.table.bytes.now c.args.table.accepted) c.args.out.now
          (omega (arith, c.args.table.short)) c.write_record-written.ensures,
    )
