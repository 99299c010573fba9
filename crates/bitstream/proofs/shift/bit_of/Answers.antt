-- `shift::bit_of` asks what a mask of the bit leaves. Assumes nothing.
use Rattle.bitstream.proofs.shift.Laws.{clear, set}
use Rattle.bitstream.proofs.shift.bit_of.Goals as goal

pub returns-then-v-power-eq0 : goal.returns-then-v-power-eq0
returns-then-v-power-eq0 c = clear c.args.v c.args.k c.if-v-power-eq0.true c.power.ensures

pub returns : goal.returns
returns c = set c.args.v c.args.k c.if-v-power-eq0.false c.power.ensures
