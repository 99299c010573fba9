-- `field::peek32` meets its contract: five bytes from the byte of the place on hold the 32 bits. Assumes nothing.
use mathlib.Core.Path.{◌∙◌}
use Rattle.bitstream.specs.Memory.Laws.{field-of-five}
use Rattle.bitstream.proofs.field.peek32.Goals as goal

pub returns : goal.returns
returns c = c.window_in_byte.ensures ∙ field-of-five c.args.s.now c.args.at c.five_bytes.result c.five_bytes.ensures
