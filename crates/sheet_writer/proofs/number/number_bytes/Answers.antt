-- `sheet_writer::number::number_bytes` meets its contract: five bytes are room for every number. Assumes nothing.
use Rattle.adaptive.specs.Number.{signed_type}
use Rattle.adaptive.specs.Number.Read.{shortest-count}
use Rattle.sheet_writer.proofs.number.Laws.{wrote-number}
use Rattle.sheet_writer.proofs.number.number_bytes.Goals as goal

pub returns : goal.returns
returns c = (wrote-number c.args.value _ _ c.write_signed-put.result c.ranges.value.sfits
    c.write_signed-put.ensures (shortest-count signed_type c.args.value).1).count
