use Rattle.code_table.proofs.plain.StoreTurn.{storing-none, storing-more}
use Rattle.code_table.proofs.plain.store.Goals as goal

pub loop-i-init : goal.loop-i-init
loop-i-init c = storing-none c.args.words.now c.args.out.now c.requires

pub loop-i-preserved : goal.loop-i-preserved
loop-i-preserved c = rw c.put_u32.ensures
    (storing-more c.args.words.now c.args.out.now c.requires c.loop-i.out c.loop-i.i
    c.loop-i.invariant c.loop-i-test.true)
