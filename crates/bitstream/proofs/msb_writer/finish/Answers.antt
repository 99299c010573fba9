-- `bitstream::msb_writer::finish` meets its contract: either nothing is left, or the register and zeros are the last word. Assumes
-- nothing.
use native.Mathlib.Omega.{arith}
use Rattle.bitstream.proofs.msb_writer.Laws.{finish-whole, finish-stored}
use Rattle.bitstream.proofs.msb_writer.finish.Goals as goal

pub returns-then-count-eq0 : goal.returns-then-count-eq0
returns-then-count-eq0 c = finish-whole c.args.out.now c.args.w c.requires c.if-count-eq0.true

pub returns : goal.returns
returns c = rw (c.put_four.ensures, c.above-last.ensures)
    (finish-stored c.args.out.now c.args.w c.requires (λ e. omega arith))
