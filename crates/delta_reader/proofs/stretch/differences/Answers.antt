use native.Mathlib.Omega.{arith}
use mathlib.Core.Path.{refl, sym, ◌∙◌}
use lib.ListN.{length}
use borrow.Author.Tests.{leb-true, leb-false}
use Rattle.delta_format.specs.Numbers.{half_of, elements_of}
use Rattle.delta_reader.specs.Offset.Laws.{elements-few}
use Rattle.delta_reader.specs.Step.Laws.{room-some}
use Rattle.delta_reader.specs.Walk.Laws.{half-most}
use Rattle.delta_reader.specs.Stretch.Laws.{
  stretch-start,
  stretch-room,
  stretch-ends,
  stretch-flag,
  stretch-below,
  stretch-above,
  stretch-sum,
  stretch-done,
  flag_by,
  no-flag-by,
}
use Rattle.delta_reader.specs.Offset.Laws.{width_of}
use Rattle.delta_reader.proofs.stretch.differences.Goals as goal

pub loop-left-init : goal.loop-left-init
loop-left-init c = stretch-start (width_of c.args.«data».bits c.args.«data».width) (elements_of c.args.«data».bits c.args.«data».bytes.now) c.requires.previous_bound

pub shape_of-row-then-data_ends : goal.shape_of-row-then-data_ends
shape_of-row-then-data_ends c = c.loop-left.invariant.long.row

pub shape_of-marks-then-data_ends : goal.shape_of-marks-then-data_ends
shape_of-marks-then-data_ends c = c.loop-left.invariant.long.marks

pub returns-then-data_ends : goal.returns-then-data_ends
returns-then-data_ends c = let ds = elements_of c.args.«data».bits c.args.«data».bytes.now in
    let out = leb-true (length ds) c.loop-left.at.0 (sym c.data_ends.ensures ∙ c.if-data_ends.true) in
    stretch-ends (width_of c.args.«data».bits c.args.«data».width) ds c.loop-left.invariant out

pub data_at-e-requires : goal.data_at-e-requires
data_at-e-requires c = let ds = elements_of c.args.«data».bits c.args.«data».bytes.now in
    leb-false (length ds) c.loop-left.at.0 (sym c.data_ends.ensures ∙ c.if-data_ends.false)

pub overflow_add-e : goal.overflow_add-e
overflow_add-e c = record { fits = omega (arith, c.data_at-e.ensures.high, half-most (width_of c.args.«data».bits c.args.«data».width)) }

pub shape_of-row-then-top-e : goal.shape_of-row-then-top-e
shape_of-row-then-top-e c = c.loop-left.invariant.long.row

pub shape_of-marks-then-top-e : goal.shape_of-marks-then-top-e
shape_of-marks-then-top-e c = c.loop-left.invariant.long.marks

pub returns-then-top-e : goal.returns-then-top-e
returns-then-top-e c = let ds = elements_of c.args.«data».bits c.args.«data».bytes.now in
    stretch-flag (width_of c.args.«data».bits c.args.«data».width) ds c.loop-left.invariant c.data_at-e.ensures refl
    (flag_by (half_of c.args.«data».bits) c.data_at-e.result c.requires.top_value c.if-top-e.true)

pub overflow_add-sum : goal.overflow_add-sum
overflow_add-sum c = record { fits = omega (arith, c.loop-left.invariant.small, c.data_at-e.ensures.high, half-most (width_of c.args.«data».bits c.args.«data».width)) }

pub shape_of-row-then-sum-lt2147483648 : goal.shape_of-row-then-sum-lt2147483648
shape_of-row-then-sum-lt2147483648 c = c.loop-left.invariant.long.row

pub shape_of-marks-then-sum-lt2147483648 : goal.shape_of-marks-then-sum-lt2147483648
shape_of-marks-then-sum-lt2147483648 c = c.loop-left.invariant.long.marks

pub returns-then-sum-lt2147483648 : goal.returns-then-sum-lt2147483648
returns-then-sum-lt2147483648 c = let ds = elements_of c.args.«data».bits c.args.«data».bytes.now in
    let inside = leb-false (length ds) c.loop-left.at.0 (sym c.data_ends.ensures ∙ c.if-data_ends.false) in
    stretch-below (width_of c.args.«data».bits c.args.«data».width) ds c.loop-left.invariant c.requires.left_lt_n c.loop-left-test.true inside c.data_at-e.ensures refl
    (no-flag-by (half_of c.args.«data».bits) c.data_at-e.result c.requires.top_value c.if-top-e.false) c.if-sum-lt2147483648.true

pub shape_of-row-then-sum-gt6442450943 : goal.shape_of-row-then-sum-gt6442450943
shape_of-row-then-sum-gt6442450943 c = c.loop-left.invariant.long.row

pub shape_of-marks-then-sum-gt6442450943 : goal.shape_of-marks-then-sum-gt6442450943
shape_of-marks-then-sum-gt6442450943 c = c.loop-left.invariant.long.marks

pub returns-then-sum-gt6442450943 : goal.returns-then-sum-gt6442450943
returns-then-sum-gt6442450943 c = let ds = elements_of c.args.«data».bits c.args.«data».bytes.now in
    let inside = leb-false (length ds) c.loop-left.at.0 (sym c.data_ends.ensures ∙ c.if-data_ends.false) in
    stretch-above (width_of c.args.«data».bits c.args.«data».width) ds c.loop-left.invariant c.requires.left_lt_n c.loop-left-test.true inside c.data_at-e.ensures refl
    (no-flag-by (half_of c.args.«data».bits) c.data_at-e.result c.requires.top_value c.if-top-e.false) c.if-sum-gt6442450943.true

pub overflow_sub-n : goal.overflow_sub-n
overflow_sub-n c = omega (arith, c.loop-left.invariant.fewer, c.requires.left_lt_n)

pub put_good-requires : goal.put_good-requires
put_good-requires c = record { room_for = room-some 1 (stretch-room c.requires.left_lt_n c.requires.room_for c.loop-left.invariant) c.loop-left-test.true; v_bound = omega (arith, c.if-sum-lt2147483648.false, c.if-sum-gt6442450943.false) }

pub after_data-at-requires : goal.after_data-at-requires
after_data-at-requires c = let ds = elements_of c.args.«data».bits c.args.«data».bytes.now in
    let inside = leb-false (length ds) c.loop-left.at.0 (sym c.data_ends.ensures ∙ c.if-data_ends.false) in
    omega (arith, inside, elements-few c.args.«data».bytes.now (width_of c.args.«data».bits c.args.«data».width))

pub overflow_sub-left : goal.overflow_sub-left
overflow_sub-left c = c.loop-left-test.true

pub loop-left-smaller : goal.loop-left-smaller
loop-left-smaller c = omega (arith, c.loop-left-test.true)

pub loop-left-preserved : goal.loop-left-preserved
loop-left-preserved c = let ds = elements_of c.args.«data».bits c.args.«data».bytes.now in
    let inside = leb-false (length ds) c.loop-left.at.0 (sym c.data_ends.ensures ∙ c.if-data_ends.false) in
    stretch-sum (width_of c.args.«data».bits c.args.«data».width) ds c.loop-left.invariant c.requires.left_lt_n c.loop-left-test.true inside c.data_at-e.ensures refl (no-flag-by (half_of c.args.«data».bits)
    c.data_at-e.result c.requires.top_value c.if-top-e.false) c.after_data-at.ensures
    c.if-sum-lt2147483648.false c.if-sum-gt6442450943.false c.put_good.ensures (record
    { row = c.put_good.auto.row; marks = c.put_good.auto.marks })

pub shape_of-row : goal.shape_of-row
shape_of-row c = c.loop-left.invariant.long.row

pub shape_of-marks : goal.shape_of-marks
shape_of-marks c = c.loop-left.invariant.long.marks

pub returns : goal.returns
returns c = let ds = elements_of c.args.«data».bits c.args.«data».bytes.now in
    stretch-done (width_of c.args.«data».bits c.args.«data».width) ds c.loop-left.invariant (omega (arith, c.loop-left-test.false))
