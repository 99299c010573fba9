-- `bitstream::writer::finish` meets its contract: either nothing is left, or the register is the last word. Assumes nothing.
use native.Mathlib.Omega.{arith}
use Rattle.bitstream.proofs.writer.Laws.{finish-whole, finish-stored}
use Rattle.bitstream.proofs.writer.finish.Goals as goal

pub returns-then-count-eq0 : goal.returns-then-count-eq0
returns-then-count-eq0 c = finish-whole c.args.out.now c.args.w c.requires c.if-count-eq0.true

pub returns : goal.returns
returns c = rw c.put_u32.ensures
    (finish-stored c.args.out.now c.args.w c.requires (λ e. omega arith))
