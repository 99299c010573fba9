-- `bitstream::msb_field::four_or_zero` meets its contract: by one load, or near the end byte by byte. Assumes nothing.
use Rattle.bitstream.proofs.msb_field.Laws.{read-four}
use Rattle.bitstream.proofs.msb_field.four_or_zero.Goals as goal

pub returns : goal.returns
returns c = read-four c.args.i c.byte_or_zero-b0.ensures c.byte_or_zero-b1.ensures
    c.byte_or_zero-b2.ensures c.byte_or_zero-b3.ensures
