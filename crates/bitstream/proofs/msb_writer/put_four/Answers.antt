-- `bitstream::msb_writer::put_four` meets its contract: four bytes are written over. Assumes nothing.
use Rattle.std.proofs.Common.{◌∙◌, sym}
use Rattle.bitstream.specs.Memory.Part.{part-overwritten}
use Rattle.bitstream.specs.Msb.{msb_digits, msb_bytes_of}
use Rattle.bitstream.specs.Msb.Laws.{length-msb_bytes_of}
use Rattle.bitstream.proofs.msb_writer.Laws.{four_bytes_lem}
use Rattle.bitstream.proofs.msb_writer.put_four.Goals as goal

pub returns : goal.returns
returns c =
    rw (c.copy_from_slice.ensures.after ∙ c.to_be_bytes.ensures ∙ sym (four_bytes_lem c.args.v))
    (part-overwritten c.args.at 4 c.args.s.now (msb_bytes_of 4 (msb_digits 32 c.args.v)) (length-msb_bytes_of 4 (msb_digits 32 c.args.v)))
