-- `bitstream::number::put_u16` meets its contract: two bytes are written over. Assumes nothing.
use Rattle.std.proofs.Common.{◌∙◌}
use Rattle.bitstream.specs.Bits.{digits, bytes_of}
use Rattle.bitstream.specs.Bits.Laws.{length_cut}
use Rattle.bitstream.specs.Memory.Part.{part-overwritten}
use Rattle.bitstream.proofs.number.Laws.{low-two-bytes}
use Rattle.bitstream.proofs.number.put_u16.Goals as goal

pub returns : goal.returns
returns c =
    rw (c.copy_from_slice.ensures.after ∙ c.to_le_bytes.ensures ∙ low-two-bytes c.args.v)
    (part-overwritten c.args.at 2 c.args.s.now (bytes_of 2 (digits 16 c.args.v)) (length_cut 8 2 (digits 16 c.args.v)))
