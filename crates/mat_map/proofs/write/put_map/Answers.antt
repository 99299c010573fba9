use Prim.Native.Nat.{◌<◌}
use native.Mathlib.Omega.{arith}
use mathlib.Core.Path.{◌∙◌}
use Rattle.bitstream.specs.Bits.{halves_of}
use Rattle.map_format.specs.Calls.{map_groups}
use Rattle.mat_map.proofs.write.Laws.{map-none, map-room, map_more, map-few, map-closable, map-all}
use Rattle.mat_map.proofs.write.put_map.Goals as goal

pub loop-i-init : goal.loop-i-init
loop-i-init c = map-none (halves_of c.args.counts.now) c.args.out.now c.requires.le_k c.requires.k_bound c.requires.out_len
    c.start-w.ensures

pub put_part-w-requires : goal.put_part-w-requires
put_part-w-requires c = let inside : c.loop-i.i < map_groups c.args.k =
    omega (arith, c.power-i-end.ensures) in
    let room = map-room (halves_of c.args.counts.now) c.args.out.now c.requires.le_k c.requires.k_bound
    c.requires.out_len c.start-w.ensures c.loop-i.invariant in
    record { k_bound = c.requires.k_bound; counts_len = c.requires.counts_len; i_bound = inside; room = room inside }

pub loop-i-preserved : goal.loop-i-preserved
loop-i-preserved c = map_more (halves_of c.args.counts.now) c.args.out.now c.requires.le_k c.requires.k_bound
    c.requires.out_len c.start-w.ensures c.loop-i.invariant
    (omega (arith, c.power-i-end.ensures)) c.put_part-w.ensures c.out-1.given

pub finish-requires : goal.finish-requires
finish-requires c = map-closable (halves_of c.args.counts.now) c.args.out.now c.requires.le_k c.requires.k_bound
    c.requires.out_len c.start-w.ensures c.loop-i.invariant
    (omega (arith, c.power-i-end.ensures))

pub total-requires : goal.total-requires
total-requires c = let few = map-few (halves_of c.args.counts.now) c.args.out.now c.requires.le_k c.requires.k_bound
    c.requires.out_len c.start-w.ensures c.loop-i.invariant
    (omega (arith, c.power-i-end.ensures)) in
    omega (arith, few)

pub shape_of-out : goal.shape_of-out
shape_of-out c = c.out-2-1.given ∙ c.loop-i.invariant.kept

pub returns : goal.returns
returns c = rw c.total.ensures
    (map-all (halves_of c.args.counts.now) c.args.out.now c.requires.le_k c.requires.k_bound
    c.requires.out_len c.start-w.ensures c.loop-i.invariant
    (omega (arith, c.power-i-end.ensures)) c.finish.ensures c.out-2-1.given
    (record { below = λ i. (c.slice_known-2-1.given i).fits }))
