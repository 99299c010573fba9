use native.Mathlib.Omega.{arith}
use mathlib.Core.Path.{◌∙◌}
use lib.ListN.{length-set}
use Rattle.adaptive.proofs.write.PutBytesTurn.{put_last, put-more, put_all}
use Rattle.adaptive.proofs.write.put_bytes.Goals as goal

pub loop-i-preserved : goal.loop-i-preserved
loop-i-preserved c = (
  omega arith,
  length-set c.loop-i.out _ _ ∙ c.loop-i.invariant.1,
  put-more c.loop-i.i c.loop-i.rest c.loop-i.out _ c.loop-i-test.true (omega arith) c.loop-i.invariant.2,
)

pub returns : goal.returns
returns c = put_all c.loop-i.i c.loop-i.rest c.loop-i.out _ c.loop-i-test.false c.loop-i.invariant.2
    ∙ put_last c.args.k c.args.d c.args.out.now c.requires
