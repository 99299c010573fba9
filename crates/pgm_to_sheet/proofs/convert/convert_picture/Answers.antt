-- `pgm_to_sheet::convert::convert_picture` is safe: the header is refused, or the table's record is written. Assumes nothing.
use Rattle.pgm_to_sheet.specs.Picture.Calls.{table-accepted, header_refused_lem, stands-first}
use Rattle.pgm_to_sheet.proofs.convert.convert_picture.Goals as goal

pub end-requires : goal.end-requires
end-requires c =
    rw c.number-number.ensures
    (header_refused_lem c.args.table.bytes.now (table-accepted c.args.table.bytes.now c.args.table.accepted) c.args.front.now c.in-Err.refusal
    c.in-Err.ensures)

pub print_table-requires : goal.print_table-requires
print_table-requires c =
    stands-first (record { table = c.args.table.accepted; header = c.in-Ok.ensures }) c.put_table-count.ensures.bytes
