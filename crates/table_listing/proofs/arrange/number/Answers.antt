use Rattle.std.proofs.Common.{◌<◌, sym, arith, length}
use Rattle.table_listing.specs.Order.{places}
use Rattle.table_listing.specs.Order.Once.{length-places, get_d-places}
use Rattle.table_listing.proofs.arrange.Laws.{copying-none, copying-more, copying-all}
use Rattle.table_listing.proofs.arrange.number.Goals as goal

pub loop-i-init : goal.loop-i-init
loop-i-init c = copying-none (places (length c.args.list.now)) c.args.list.now (sym (length-places (length c.args.list.now)))

pub loop-i-preserved : goal.loop-i-preserved
loop-i-preserved c = let n = length c.args.list.now in
    let inside : c.loop-i.i < length (places n) = omega (arith, length-places n, c.loop-i-test.true) in
    copying-more c.loop-i.i inside (sym (get_d-places n c.loop-i.i c.loop-i-test.true)) c.loop-i.invariant

pub returns : goal.returns
returns c = copying-all (omega (arith, length-places (length c.args.list.now), c.loop-i-test.false)) c.loop-i.invariant
