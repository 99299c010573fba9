-- `sheet_stream::step::read_one` meets its contract: the record is refused, and the sheet ends; or its content is there, and what
-- it leaves is carried on. Assumes nothing.
use Rattle.std.proofs.Common.{arith}
use Rattle.sheet_stream.specs.Progress.{carried_by}
use Rattle.sheet_stream.specs.Step.Laws.{read_length, refused-made, after-made}
use Rattle.sheet_stream.proofs.step.read_one.Goals as goal

pub returns-then-read-ne0-clause-made : goal.returns-then-read-ne0-clause-made
returns-then-read-ne0-clause-made c =
    refused-made c.args.at c.args.table.now c.args.bytes.now c.args.content.now c.requires.bytes_value c.requires.in_bounds_2
    c.read_record-read.ensures c.requires.bytes_nonzero (λ e. omega (arith, e, c.if-read-ne0.true)) c.end.ensures

pub after-requires-clause-le_length : goal.after-requires-clause-le_length
after-requires-clause-le_length c =
    read_length (carried_by c.args.at c.args.table.now) c.args.bytes.now c.args.content.now c.requires.in_bounds_2
    c.read_record-read.ensures c.if-read-ne0.false

pub returns-clause-made : goal.returns-clause-made
returns-clause-made c =
    after-made c.args.at c.args.table.now c.args.bytes.now c.args.content.now c.requires.bytes_value c.requires.in_bounds_2
    c.read_record-read.ensures c.if-read-ne0.false c.after.ensures.carried
