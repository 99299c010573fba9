use lib.ListN.{drop}
use Rattle.delta_format.specs.Numbers.{elements_of}
use Prim.Native.Nat.{zero-le}
use native.Mathlib.Omega.{arith}
use lib.ListN.{length-drop}
use Rattle.delta_reader.specs.Puts.Laws.{as_long, puts_none, of-drop, values-again, values-all}
use Rattle.delta_reader.specs.Offset.Laws.{width_of}
use Rattle.delta_reader.proofs.put.put_values.Goals as goal

pub loop-i-init : goal.loop-i-init
loop-i-init c = record { most = zero-le; long = as_long; puts = puts_none c.args.row.now c.args.marks.now c.args.at }

pub overflow_add-at : goal.overflow_add-at
overflow_add-at c = record { fits = omega (arith, c.requires.room_for.marks, c.loop-i-test.true) }

pub value_at-requires : goal.value_at-requires
value_at-requires c = let all = elements_of c.args.value.bits c.args.value.bytes.now in
    omega (arith, c.requires.count_in_bounds, c.loop-i-test.true, length-drop c.args.from.0 all)

pub put_element-requires : goal.put_element-requires
put_element-requires c = record { at_in_bounds = omega (arith, c.requires.room_for.row, c.loop-i.invariant.long.row, c.loop-i-test.true); at_in_bounds_2 = omega (arith, c.requires.room_for.marks, c.loop-i.invariant.long.marks, c.loop-i-test.true) }

pub loop-i-preserved : goal.loop-i-preserved
loop-i-preserved c = let all = elements_of c.args.value.bits c.args.value.bytes.now in
    let value = of-drop all c.args.from.0 c.loop-i.i c.value_at.ensures in
    values-again (drop c.args.from.0 all) c.requires.room_for c.loop-i.invariant
    c.loop-i-test.true c.requires.count_in_bounds (width_of c.args.value.bits c.args.value.width) value c.put_element.ensures
    (record { row = c.put_element.auto.row; marks = c.put_element.auto.marks })

pub shape_of-row : goal.shape_of-row
shape_of-row c = c.loop-i.invariant.long.row

pub shape_of-marks : goal.shape_of-marks
shape_of-marks c = c.loop-i.invariant.long.marks

pub returns : goal.returns
returns c = values-all (drop c.args.from.0 (elements_of c.args.value.bits c.args.value.bytes.now)) c.requires.room_for
    c.loop-i.invariant c.loop-i-test.false
