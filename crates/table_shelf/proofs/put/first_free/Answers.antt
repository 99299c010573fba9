-- `table_shelf::put::first_free` meets its contract. Assumes nothing.
use Rattle.std.proofs.Common.{sym}
use Rattle.table_shelf.proofs.put.Laws.{taken_none_lem, taken_more, free-found, free-none}
use Rattle.table_shelf.proofs.put.first_free.Goals as goal

pub loop-k-init : goal.loop-k-init
loop-k-init c = taken_none_lem c.args.shelf.now c.args.party

pub returns-then-is_free : goal.returns-then-is_free
returns-then-is_free c = (
  c.loop-k-test.true,
  free-found c.args.shelf.now c.args.party c.requires.party_value c.loop-k.k c.loop-k.invariant (sym (c.if-is_free.ensures)),
)

pub loop-k-preserved : goal.loop-k-preserved
loop-k-preserved c = taken_more c.args.shelf.now c.args.party c.loop-k.k c.loop-k.invariant c.loop-k-test.true (sym (c.if-is_free.ensures))

pub returns : goal.returns
returns c = sym (free-none c.args.shelf.now c.args.party c.requires.party_value c.loop-k.k c.loop-k.invariant c.loop-k-test.false)
