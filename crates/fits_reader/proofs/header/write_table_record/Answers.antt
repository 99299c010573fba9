-- `fits_reader::header::write_table_record` meets its contract: a table may be written first, and this one is accepted. Assumes nothing.
use Rattle.fits_reader.proofs.header.Written.{table-written, table-full}
use Rattle.fits_reader.proofs.header.write_table_record.Goals as goal

pub returns-then-written-eq0 : goal.returns-then-written-eq0
returns-then-written-eq0 c =
    rw c.if-written-eq0.true
    at (table-written c.plain_bytes-table.result c.args.out.now c.write_record-written.new.out
    c.write_record-written.result c.plain_bytes-table.ensures c.write_record-written.ensures)

pub returns-else-written-eq0 : goal.returns-else-written-eq0
returns-else-written-eq0 c =
    table-full c.args.out.now c.write_record-written.new.out c.write_record-written.result.number c.if-written-eq0.false
    (table-written c.plain_bytes-table.result c.args.out.now c.write_record-written.new.out
    c.write_record-written.result c.plain_bytes-table.ensures c.write_record-written.ensures)
