-- `sheet_picture::claim::length_field` meets its contract: four bytes make a number. Assumes nothing.
use Rattle.bitstream.specs.Memory.Laws.{read-four}
use Rattle.sheet_picture.proofs.claim.length_field.Goals as goal

pub returns : goal.returns
returns c = read-four 0 c.byte_or_zero-b0.ensures c.byte_or_zero-b1.ensures c.byte_or_zero-b2.ensures c.byte_or_zero-b3.ensures
