-- `sheet_to_pgm::rows::write_record` meets its contract: the lines that a row passes over, and its own, are settled. Assumes nothing.
use Rattle.std.proofs.Common.{◌*◌, take, arith, sym, ◌∙◌, length-take-le}
use Rattle.row_pixels.specs.Laws.{length-halves}
use Rattle.sheet_stream.specs.AcceptedRecord.Laws.{next-stands}
use Rattle.sheet_to_pgm.proofs.rows.write_record.Goals as goal

pub write_gap-requires-clause-next_le_to : goal.write_gap-requires-clause-next_le_to
write_gap-requires-clause-next_le_to c = let row = sym c.is_row.ensures ∙ c.if-not-is_row.false in
    (c.requires.row_brought.low row, (next-stands c.requires.row_brought.next row).number)

pub write_line-requires-clause-pixels_len_bound : goal.write_line-requires-clause-pixels_len_bound
write_line-requires-clause-pixels_len_bound c = let row = sym c.is_row.ensures ∙ c.if-not-is_row.false in
    let stands = next-stands c.requires.row_brought.next row in
    let size = length-take-le (2 * c.args.step.read.count) c.args.memory.now.content stands.there in
    (omega (arith, length-halves (take (2 * c.args.step.read.count) c.args.memory.now.content), size), omega (arith, size, stands.few))

pub write_line-requires-clause-next_bound : goal.write_line-requires-clause-next_bound
write_line-requires-clause-next_bound c = let row = sym c.is_row.ensures ∙ c.if-not-is_row.false in
    omega (arith, c.in_ok-lines.ensures, (next-stands c.requires.row_brought.next row).number)
