-- `shift::window_in_byte` is the low word of a quotient by a power, made of one product. Assumes nothing.
use Rattle.bitstream.proofs.shift.Laws.{five-value}
use Rattle.bitstream.proofs.shift.window_in_byte.Goals as goal

pub returns : goal.returns
returns c = five-value c.args.v c.requires c.power_up_to_7.ensures
