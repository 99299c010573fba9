use Prim.Native.Nat.{zero-le}
use native.Mathlib.Omega.{arith}
use Rattle.delta_reader.specs.Puts.Laws.{as_long, alike-none, alike-again, alike_all}
use Rattle.delta_reader.proofs.put.put_run.Goals as goal

pub loop-i-init : goal.loop-i-init
loop-i-init c = record { most = zero-le; long = as_long; alike = alike-none c.args.v c.args.mark c.args.row.now c.args.marks.now c.args.at }

pub overflow_add-at : goal.overflow_add-at
overflow_add-at c = record { fits = omega (arith, c.requires.marks, c.loop-i-test.true) }

pub put_element-requires : goal.put_element-requires
put_element-requires c = record { at_in_bounds = omega (arith, c.requires.row, c.loop-i.invariant.long.row, c.loop-i-test.true); at_in_bounds_2 = omega (arith, c.requires.marks, c.loop-i.invariant.long.marks, c.loop-i-test.true) }

pub loop-i-preserved : goal.loop-i-preserved
loop-i-preserved c = alike-again c.requires c.loop-i.invariant c.loop-i-test.true c.put_element.ensures
    (record { row = c.put_element.auto.row; marks = c.put_element.auto.marks })

pub shape_of-row : goal.shape_of-row
shape_of-row c = c.loop-i.invariant.long.row

pub shape_of-marks : goal.shape_of-marks
shape_of-marks c = c.loop-i.invariant.long.marks

pub returns : goal.returns
returns c = alike_all c.requires c.loop-i.invariant c.loop-i-test.false
