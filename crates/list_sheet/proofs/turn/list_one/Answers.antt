-- `list_sheet::turn::list_one` meets its contract: the record is refused, and the last line put; or its line is put, and what it
-- leaves is carried on. Assumes nothing.
use Rattle.std.proofs.Common.{sym}
use Rattle.sheet_stream.specs.Progress.{carried_by}
use Rattle.list_sheet.specs.Step.Laws.{turn-refused, read_length, line-within, turn-after}
use Rattle.list_sheet.proofs.turn.list_one.Goals as goal

pub returns-then-read-ne0-clause-made : goal.returns-then-read-ne0-clause-made
returns-then-read-ne0-clause-made c =
    let turn =
    turn-refused (carried_by c.args.at c.args.table.now) c.args.bytes.now c.args.line.now c.requires.in_bounds_2
    c.list_record-listed.ensures.listed c.list_record-listed.ensures.most c.requires.bytes_nonzero c.if-read-ne0.true in
    rw (c.end.ensures.line, c.end.ensures.turn) (sym turn)

pub after-requires-clause-le_length : goal.after-requires-clause-le_length
after-requires-clause-le_length c =
    read_length (carried_by c.args.at c.args.table.now) c.args.bytes.now c.args.line.now c.requires.in_bounds_2
    c.list_record-listed.ensures.listed c.list_record-listed.ensures.most c.if-read-ne0.false

pub returns-clause-line : goal.returns-clause-line
returns-clause-line c =
    line-within (carried_by c.args.at c.args.table.now) c.args.bytes.now c.args.line.now c.requires.in_bounds_2
    c.list_record-listed.ensures.listed c.list_record-listed.ensures.most c.if-read-ne0.false

pub returns-clause-made : goal.returns-clause-made
returns-clause-made c =
    turn-after (carried_by c.args.at c.args.table.now) c.args.bytes.now c.args.line.now c.requires.in_bounds_2
    c.list_record-listed.ensures.listed c.list_record-listed.ensures.most c.if-read-ne0.false c.after.ensures.carried
