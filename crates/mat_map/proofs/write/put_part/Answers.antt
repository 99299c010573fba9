-- `mat_map::write::put_part` meets its contract: the part that is lent is group i. Assumes nothing.
use native.Mathlib.Omega.{arith}
use Rattle.mat_map.proofs.write.Laws.{part_bytes, part-there, part-counts, part-size}
use Rattle.mat_map.proofs.write.put_part.Goals as goal

pub overflow_mul-at : goal.overflow_mul-at
overflow_mul-at c = omega (arith, part_bytes c.args.k c.args.i c.power.ensures c.requires.k_bound c.requires.i_bound)

pub overflow_add-at : goal.overflow_add-at
overflow_add-at c = omega (arith, part_bytes c.args.k c.args.i c.power.ensures c.requires.k_bound c.requires.i_bound)

pub slice_bounds-put_group-end : goal.slice_bounds-put_group-end
slice_bounds-put_group-end c = part-there c.args.k c.args.i c.power.ensures c.requires.k_bound c.requires.i_bound
    c.args.counts.now c.requires.counts_len

pub put_group-requires : goal.put_group-requires
put_group-requires c = let here = part-counts c.args.k c.args.i c.power.ensures c.requires.k_bound c.requires.i_bound c.args.counts.now c.requires.counts_len in
    let size = part-size c.args.k c.args.i c.power.ensures c.requires.k_bound c.requires.i_bound c.args.counts.now c.requires.counts_len in
    record { k_bound = c.requires.k_bound; group_len = size; room = rw here c.requires.room }

pub returns : goal.returns
returns c = let here = part-counts c.args.k c.args.i c.power.ensures c.requires.k_bound c.requires.i_bound c.args.counts.now c.requires.counts_len in
    rw (← here) c.put_group.ensures
