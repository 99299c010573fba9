-- `mat_map::put_group::put_two` meets its contract: the group is one field, the lower position first. Assumes nothing.
use Prim.Native.Nat.{◌+◌, ◌*◌, ◌^◌, ◌<◌}
use native.Mathlib.Omega.{arith}
use mathlib.Core.Path.{sym, ap, ◌∙◌}
use lib.Pow.{pow_mono}
use Rattle.bitstream.specs.Bits.{halves_of}
use Rattle.bitstream.specs.Msb.{msb_digits}
use Rattle.mat_map.specs.Putting.Laws.{room-ready, puts-field}
use Rattle.mat_map.proofs.put_group.Laws.{small, two-number, two-low, group_bits-fields}
use Rattle.mat_map.proofs.put_group.put_two.Goals as goal

pub above-v-requires : goal.above-v-requires
above-v-requires c = let most = pow_mono {i = c.args.k} {j = 4} c.requires.k_bound in
    let first = small c.args.k c.above.result c.requires.k_bound (omega (arith, c.above.ensures, c.position_of-lower.ensures.upper_bound, c.position_of-higher.ensures.upper_bound, c.requires.group_len, most)) in
    record { n_bound = omega arith; low_bound = omega (arith, first, c.position_of-lower.ensures.upper_bound, c.position_of-higher.ensures.upper_bound, c.requires.group_len, most) }

pub put-requires : goal.put-requires
put-requires c = let low : c.position_of-lower.result < 2 ^ c.args.k = omega (arith, c.position_of-lower.ensures.upper_bound, c.requires.group_len) in
    let low' : c.position_of-higher.result < 2 ^ c.args.k = omega (arith, c.position_of-higher.ensures.upper_bound, c.requires.group_len) in
    let e = group_bits-fields c.args.k (halves_of c.args.group.now) c.position_of-lower.result c.position_of-higher.result c.requires.value
    c.position_of-lower.ensures.value c.position_of-higher.ensures.value low low' in
    let number = two-number c.args.k c.position_of-lower.result c.position_of-higher.result c.above.ensures c.above-v.ensures in
    let field = e ∙ ap (msb_digits (3 + 2 * c.args.k)) (sym number) in record { msb_ready = room-ready (3 + 2 * c.args.k) c.above-v.result field (omega (arith, c.requires.k_bound)) c.requires.room; v_bound = rw number (two-low c.args.k low low') }

pub returns : goal.returns
returns c = let low : c.position_of-lower.result < 2 ^ c.args.k = omega (arith, c.position_of-lower.ensures.upper_bound, c.requires.group_len) in
    let low' : c.position_of-higher.result < 2 ^ c.args.k = omega (arith, c.position_of-higher.ensures.upper_bound, c.requires.group_len) in
    let e = group_bits-fields c.args.k (halves_of c.args.group.now) c.position_of-lower.result c.position_of-higher.result c.requires.value
    c.position_of-lower.ensures.value c.position_of-higher.ensures.value low low' in
    let number = two-number c.args.k c.position_of-lower.result c.position_of-higher.result c.above.ensures c.above-v.ensures in
    let field = e ∙ ap (msb_digits (3 + 2 * c.args.k)) (sym number) in
    puts-field (3 + 2 * c.args.k) c.above-v.result field c.put.ensures
