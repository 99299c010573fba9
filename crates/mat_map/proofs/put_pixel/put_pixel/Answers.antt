-- `mat_map::put_pixel::put_pixel` meets its contract: each of the three forms is one field. Assumes nothing.
use Prim.Native.Nat.{◌+◌, ◌-◌, ◌*◌}
use native.Mathlib.Omega.{arith}
use Rattle.map_format.specs.Writing.Laws.{pixel_bits-two}
use Rattle.mat_map.specs.Putting.Laws.{room-ready, puts-field}
use Rattle.mat_map.proofs.put_pixel.Laws.{pixel_bits-six, pixel_bits-wide}
use Rattle.mat_map.proofs.put_pixel.put_pixel.Goals as goal

pub put-requires : goal.put-requires
put-requires c = record { msb_ready = room-ready 2 c.args.x (pixel_bits-two c.args.x c.if-x-lt3.true) (omega arith) c.requires.room; v_bound = omega (arith, c.if-x-lt3.true) }

pub returns-then-x-lt3 : goal.returns-then-x-lt3
returns-then-x-lt3 c = puts-field 2 c.args.x (pixel_bits-two c.args.x c.if-x-lt3.true) c.put.ensures

pub put-requires-then-x-lt18 : goal.put-requires-then-x-lt18
put-requires-then-x-lt18 c = let e = pixel_bits-six c.args.x c.if-x-lt3.false c.if-x-lt18.true in
    record { msb_ready = room-ready 6 (48 + (c.args.x - 3)) e (omega arith) c.requires.room; v_bound = omega (arith, c.if-x-lt3.false, c.if-x-lt18.true) }

pub returns-then-x-lt18 : goal.returns-then-x-lt18
returns-then-x-lt18 c = puts-field 6 (48 + (c.args.x - 3)) (pixel_bits-six c.args.x c.if-x-lt3.false c.if-x-lt18.true) c.put-then-x-lt18.ensures

pub put-requires-2 : goal.put-requires-2
put-requires-2 c = let e = pixel_bits-wide c.args.x c.if-x-lt18.false c.requires.x_bound in
    record { msb_ready = room-ready 22 (63 * 65536 + c.args.x) e (omega arith) c.requires.room; v_bound = omega (arith, c.requires.x_bound) }

pub returns : goal.returns
returns c = puts-field 22 (63 * 65536 + c.args.x) (pixel_bits-wide c.args.x c.if-x-lt18.false c.requires.x_bound) c.put-2.ensures
