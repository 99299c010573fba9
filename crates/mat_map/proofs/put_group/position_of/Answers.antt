use native.Mathlib.Omega.{arith}
use borrow.Author.Rules.{rules}
use Rattle.bitstream.specs.Bits.{halves_of}
use Rattle.row_pixels.specs.Laws.{length-halves}
use Rattle.mat_map.proofs.put_group.Laws.{seeking-within, seeking-none, seeking-next, seeking-more, seeking-found}
use Rattle.mat_map.proofs.put_group.position_of.Goals as goal

pub pixel_at-x-requires : goal.pixel_at-x-requires
pixel_at-x-requires c = omega (arith, seeking-within (halves_of c.args.group.now) c.requires, length-halves c.args.group.now)

pub loop-x-init : goal.loop-x-init
loop-x-init c = seeking-none (halves_of c.args.group.now) c.requires c.pixel_at-x.ensures

pub overflow_add-i : goal.overflow_add-i
overflow_add-i c = let inside = seeking-next c.loop-x.invariant c.loop-x-test.true in
    let size = length-halves c.args.group.now in
    search rules

pub pixel_at-x-requires-in-loop-x : goal.pixel_at-x-requires-in-loop-x
pixel_at-x-requires-in-loop-x c = omega (arith, seeking-next c.loop-x.invariant c.loop-x-test.true, length-halves c.args.group.now)

pub loop-x-smaller : goal.loop-x-smaller
loop-x-smaller c = omega (arith, c.loop-x.invariant.within, length-halves c.args.group.now)

pub loop-x-preserved : goal.loop-x-preserved
loop-x-preserved c = seeking-more c.loop-x.invariant c.loop-x-test.true c.pixel_at-x-in-loop-x.ensures

pub returns : goal.returns
returns c = record { value = seeking-found c.loop-x.invariant c.loop-x-test.false; upper_bound = omega (arith, c.loop-x.invariant.within, length-halves c.args.group.now) }
