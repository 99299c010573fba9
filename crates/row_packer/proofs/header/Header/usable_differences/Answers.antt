-- `row_packer::header::Header::usable_differences` meets its contract: all of the table's once a height has come, none before. Assumes nothing.
use Rattle.row_packer.proofs.item.Laws.{usable-all, usable-none}
use Rattle.row_packer.proofs.header.Header.usable_differences.Goals as goal

pub returns-then-p : goal.returns-then-p
returns-then-p c = usable-all c.if-p.true

pub returns-else-p : goal.returns-else-p
returns-else-p c = usable-none c.if-p.false
