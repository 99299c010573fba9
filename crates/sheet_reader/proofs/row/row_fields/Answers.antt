-- `sheet_reader::row::row_fields` meets its contract: the fields are missing, or read and followed by the place. Assumes
-- nothing.
use Rattle.sheet_reader.proofs.row.Laws.{fields-there}
use Rattle.sheet_reader.proofs.row.row_fields.Goals as goal

pub returns : goal.returns
returns c = fields-there c.args.body.now c.args.state c.if-body-lt4.false
    c.read_u16-row.ensures c.read_u16-count.ensures c.in_ok-row_place.ensures
