-- `bitstream::number::put_u32` meets its contract: four bytes are written over. Assumes nothing.
use Rattle.std.proofs.Common.{◌∙◌, sym}
use Rattle.bitstream.specs.Bits.{digits, bytes_of}
use Rattle.bitstream.specs.Bits.Laws.{length_cut}
use Rattle.bitstream.specs.Memory.Part.{part-overwritten}
use Rattle.bitstream.proofs.number.Laws.{four_bytes_lem}
use Rattle.bitstream.proofs.number.put_u32.Goals as goal

pub returns : goal.returns
returns c =
    rw (c.copy_from_slice.ensures.after ∙ c.to_le_bytes.ensures ∙ sym (four_bytes_lem c.args.v))
    (part-overwritten c.args.at 4 c.args.s.now (bytes_of 4 (digits 32 c.args.v)) (length_cut 8 4 (digits 32 c.args.v)))
