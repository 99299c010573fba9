-- `mat_map::put_group::put_one` meets its contract: the group is one field. Assumes nothing.
use Prim.Native.Nat.{◌+◌, ◌^◌, ◌<◌}
use native.Mathlib.Omega.{arith}
use mathlib.Core.Path.{sym, ap, ◌∙◌}
use Rattle.bitstream.specs.Bits.{halves_of}
use Rattle.bitstream.specs.Msb.{msb_digits}
use Rattle.mat_map.specs.Putting.Laws.{room-ready, puts-field}
use Rattle.mat_map.proofs.put_group.Laws.{one-low, group_bits-field}
use Rattle.mat_map.proofs.put_group.put_one.Goals as goal

pub put-requires : goal.put-requires
put-requires c = let low : c.position_of-p.result < 2 ^ c.args.k = omega (arith, c.position_of-p.ensures.upper_bound, c.requires.group_len) in
    let e = group_bits-field c.args.k (halves_of c.args.group.now) c.position_of-p.result c.requires.value c.position_of-p.ensures.value low in
    let field = e ∙ ap (msb_digits (2 + c.args.k)) (sym c.above-v.ensures) in record { msb_ready = room-ready (2 + c.args.k) c.above-v.result field (omega (arith, c.requires.k_bound)) c.requires.room; v_bound = rw c.above-v.ensures (one-low c.args.k low) }

pub returns : goal.returns
returns c = let low : c.position_of-p.result < 2 ^ c.args.k = omega (arith, c.position_of-p.ensures.upper_bound, c.requires.group_len) in
    let e = group_bits-field c.args.k (halves_of c.args.group.now) c.position_of-p.result c.requires.value c.position_of-p.ensures.value low in
    let field = e ∙ ap (msb_digits (2 + c.args.k)) (sym c.above-v.ensures) in
    puts-field (2 + c.args.k) c.above-v.result field c.put.ensures
