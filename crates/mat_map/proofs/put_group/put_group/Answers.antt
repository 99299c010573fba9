-- `mat_map::put_group::put_group` meets its contract: the code by the group's photons, then what follows it. Assumes nothing.
use native.Mathlib.Omega.{arith}
use mathlib.Core.Path.{refl, sym, ◌∙◌}
use lib.Pow.{pow_mono}
use Rattle.bitstream.specs.Bits.{halves_of}
use Rattle.bitstream.specs.Msb.{msb_digits}
use Rattle.map_format.specs.Writing.{pixels_bits}
use Rattle.mat_map.specs.Putting.Laws.{room-ready, puts-field, first-room, second-room, both-put}
use Rattle.mat_map.proofs.put_group.Laws.{three, group_bits-none, group_bits-many}
use Rattle.mat_map.proofs.put_group.put_group.Goals as goal

pub photons-total-requires : goal.photons-total-requires
photons-total-requires c = omega (arith, c.requires.group_len, pow_mono {i = c.args.k} {j = 4} c.requires.k_bound)

pub put-requires : goal.put-requires
put-requires c = let e = group_bits-none c.args.k (halves_of c.args.group.now) (sym c.if-total-eq0.true ∙ c.photons-total.ensures) in
    record { msb_ready = room-ready 1 1 e (omega arith) c.requires.room; v_bound = omega arith }

pub returns-then-total-eq0 : goal.returns-then-total-eq0
returns-then-total-eq0 c = let none = sym c.if-total-eq0.true ∙ c.photons-total.ensures in
    let e = group_bits-none c.args.k (halves_of c.args.group.now) none in
    puts-field 1 1 e c.put.ensures

pub put-v-requires : goal.put-v-requires
put-v-requires c = let xs = halves_of c.args.group.now in
    let many-photons = three c.photons-total.ensures c.if-total-eq0.false c.if-total-eq1.false c.if-total-eq2.false in
    let e = group_bits-many c.args.k xs many-photons in
    record { msb_ready = room-ready 3 0 refl (omega arith) (first-room (msb_digits 3 0) (pixels_bits xs) e c.requires.room); v_bound = omega arith }

pub put_pixels-requires : goal.put_pixels-requires
put_pixels-requires c = let xs = halves_of c.args.group.now in
    let many-photons = three c.photons-total.ensures c.if-total-eq0.false c.if-total-eq1.false c.if-total-eq2.false in
    let e = group_bits-many c.args.k xs many-photons in
    second-room (msb_digits 3 0) (pixels_bits xs) e c.requires.room (puts-field 3 0 refl c.put-v.ensures)
    c.out-2-1.given

pub returns : goal.returns
returns c = let xs = halves_of c.args.group.now in
    let many-photons = three c.photons-total.ensures c.if-total-eq0.false c.if-total-eq1.false c.if-total-eq2.false in
    let e = group_bits-many c.args.k xs many-photons in
    both-put (msb_digits 3 0) (pixels_bits xs) e c.requires.room (puts-field 3 0 refl c.put-v.ensures)
    c.out-2-1.given c.put_pixels.ensures c.out-3-1.given
