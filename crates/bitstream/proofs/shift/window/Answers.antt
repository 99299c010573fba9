-- `shift::window` is the low word of a quotient by a power, made of two products. Assumes nothing.
use Rattle.bitstream.proofs.shift.Laws.{taken}
use Rattle.bitstream.proofs.shift.window.Goals as goal

pub returns : goal.returns
returns c = rw (taken c.ranges.v.fits c.requires c.wide_power-up.ensures).value
