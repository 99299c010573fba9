-- `mat_map::write::write_sized` meets its contract: the map is made in memory of its own; there is no room for it, or it is copied.
-- Assumes nothing.
use native.Mathlib.Omega.{arith}
use Rattle.bitstream.specs.Bits.{halves_of}
use Rattle.mat_map.proofs.write.Laws.{sized-few, sized-full, sized-done}
use Rattle.mat_map.proofs.write.write_sized.Goals as goal

pub overflow_add-n : goal.overflow_add-n
overflow_add-n c = let few =
    sized-few (halves_of c.args.counts.now) c.args.out.now c.requires.le_k c.requires.k_bound c.put_map-bits.ensures in
    omega (arith, few)

pub returns-then-out-n : goal.returns-then-out-n
returns-then-out-n c = sized-full (halves_of c.args.counts.now) c.args.out.now c.requires.le_k c.requires.k_bound c.put_map-bits.ensures
    c.if-out-n.true

pub copy-requires : goal.copy-requires
copy-requires c = let few =
    sized-few (halves_of c.args.counts.now) c.args.out.now c.requires.le_k c.requires.k_bound c.put_map-bits.ensures in
    record { n_in_bounds = omega (arith, few, c.put_map-bits.auto); n_in_bounds_2 = c.if-out-n.false }

pub returns : goal.returns
returns c = sized-done (halves_of c.args.counts.now) c.args.out.now c.requires.le_k c.requires.k_bound c.put_map-bits.ensures
    c.if-out-n.false c.copy.ensures
