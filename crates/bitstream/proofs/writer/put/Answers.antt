-- `bitstream::writer::put` meets its contract: either the register has room, or its low word is stored. Assumes nothing.
use native.Mathlib.Omega.{arith}
use Rattle.bitstream.proofs.writer.Laws.{put-kept, put-stored}
use Rattle.bitstream.proofs.writer.put.Goals as goal

pub returns-then-count-lt32 : goal.returns-then-count-lt32
returns-then-count-lt32 c = rw c.above-acc.ensures
    (put-kept c.args.out.now c.args.w c.args.v c.args.n c.requires.ready
    c.requires.v_bound c.if-count-lt32.true)

pub returns : goal.returns
returns c = rw (c.put_u32.ensures, c.above-acc.ensures)
    (put-stored c.args.out.now c.args.w c.args.v c.args.n c.requires.ready
    c.requires.v_bound (omega arith))
