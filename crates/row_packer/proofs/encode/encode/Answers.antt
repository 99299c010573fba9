-- `row_packer::encode::encode` meets its contract: the chosen item can be written, and its bits and what follows it are the
-- definition's. Assumes nothing.
use Rattle.row_format.specs.Table.Laws.{accepted-table}
use Rattle.row_packer.proofs.encode.Laws.{chosen-codable, encodes}
use Rattle.row_packer.proofs.encode.encode.Goals as goal

pub of-requires-clause-accepted : goal.of-requires-clause-accepted
of-requires-clause-accepted c = accepted-table c.args.table.bytes.now c.args.table.accepted

pub of-requires-clause-codable : goal.of-requires-clause-codable
of-requires-clause-codable c =
    chosen-codable (record { low = c.args.table.low_value; size = c.args.table.size_value }) c.requires.sound c.requires.pixel_bound
    c.item_for-item.ensures

pub returns : goal.returns
returns c =
    encodes (record { low = c.args.table.low_value; size = c.args.table.size_value }) c.requires.sound c.requires.pixel_bound
    c.item_for-item.ensures c.of.ensures c.after.ensures
