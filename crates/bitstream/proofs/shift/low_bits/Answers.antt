-- `shift::low_bits` keeps the bits below a power. Assumes nothing.
use lib.Bits.{and_mask}
use Rattle.bitstream.proofs.shift.low_bits.Goals as goal

pub returns : goal.returns
returns c = rw c.wide_power.ensures (and_mask c.args.v c.args.n)
