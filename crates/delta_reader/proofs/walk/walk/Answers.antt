use Prim.Native.Nat.{ℕ, ◌+◌}
use native.Mathlib.Omega.{arith}
use mathlib.Core.Path.{sym, ap, ◌∙◌}
use lib.ListN.{length}
use Rattle.std.proofs.lemmas.Result.{err_from_is_err_and}
use borrow.Author.Tests.{leb-true, leb-false}
use Rattle.delta_format.specs.Numbers.{elements_of}
use Rattle.delta_reader.specs.Offset.Laws.{elements-few, width_of}
use Rattle.delta_reader.specs.Walk.Laws.{
  row_of,
  walk_start,
  walk-room,
  walk-few,
  walk_ends,
  walk_refused,
  walk-flag,
  walk_first,
  walk-done,
  width_some,
  width-most,
  half-most,
}
use Rattle.delta_reader.specs.Stretch.Laws.{ordinary, stretch-on, stretch-out, stretch-less}
use Rattle.delta_reader.proofs.walk.walk.Goals as goal

pub overflow_sub-data : goal.overflow_sub-data
overflow_sub-data c = width_some (width_of c.args.«data».bits c.args.«data».width)

pub power-requires : goal.power-requires
power-requires c = omega (arith, width-most (width_of c.args.«data».bits c.args.«data».width), width_some (width_of c.args.«data».bits c.args.«data».width))

pub overflow_cast-top : goal.overflow_cast-top
overflow_cast-top c = record { fits = omega (arith, c.power.ensures, half-most (width_of c.args.«data».bits c.args.«data».width)) }

pub overflow_add-top : goal.overflow_add-top
overflow_add-top c = record { fits = omega (arith, c.power.ensures, half-most (width_of c.args.«data».bits c.args.«data».width)) }

pub loop-left-init : goal.loop-left-init
loop-left-init c = let ds = elements_of c.args.«data».bits c.args.«data».bytes.now in
    let vs = elements_of c.args.value.bits c.args.value.bytes.now in
    let rs = elements_of 32 c.args.repeat.now in
    let row = row_of c.args.n c.args.«data».bits c.args.«data».bytes.now c.args.value.bits c.args.value.bytes.now c.args.repeat.now in
    walk_start (width_of c.args.«data».bits c.args.«data».width) ds vs rs c.requires c.args.first.«data».0 c.args.first.value.0 c.args.first.repeat.0
    (row c.args.first.«data» c.args.first.value c.args.first.repeat)

pub shape_of-row-then-data_ends : goal.shape_of-row-then-data_ends
shape_of-row-then-data_ends c = c.loop-left.invariant.long.row

pub shape_of-marks-then-data_ends : goal.shape_of-marks-then-data_ends
shape_of-marks-then-data_ends c = c.loop-left.invariant.long.marks

pub returns-then-data_ends : goal.returns-then-data_ends
returns-then-data_ends c = let ds = elements_of c.args.«data».bits c.args.«data».bytes.now in
    let vs = elements_of c.args.value.bits c.args.value.bytes.now in
    let rs = elements_of 32 c.args.repeat.now in
    let out = leb-true (length ds) c.loop-left.at.0 (sym c.data_ends.ensures ∙ c.if-data_ends.true) in
    walk_ends (width_of c.args.«data».bits c.args.«data».width) ds vs rs c.requires c.loop-left.invariant c.loop-left-test.true out

pub data_at-e-requires : goal.data_at-e-requires
data_at-e-requires c = let ds = elements_of c.args.«data».bits c.args.«data».bytes.now in
    let vs = elements_of c.args.value.bits c.args.value.bytes.now in
    let rs = elements_of 32 c.args.repeat.now in
    leb-false (length ds) c.loop-left.at.0 (sym c.data_ends.ensures ∙ c.if-data_ends.false)

pub overflow_add-e : goal.overflow_add-e
overflow_add-e c = record { fits = omega (arith, c.data_at-e.ensures.high, half-most (width_of c.args.«data».bits c.args.«data».width)) }

pub after_data-at-requires : goal.after_data-at-requires
after_data-at-requires c = let ds = elements_of c.args.«data».bits c.args.«data».bytes.now in
    let inside = leb-false (length ds) c.loop-left.at.0 (sym c.data_ends.ensures ∙ c.if-data_ends.false) in
    omega (arith, inside, elements-few c.args.«data».bytes.now (width_of c.args.«data».bits c.args.«data».width))

pub overflow_sub-top : goal.overflow_sub-top
overflow_sub-top c = omega (arith, c.power.ensures, c.data_at-e.ensures.high)

pub overflow_sub-n : goal.overflow_sub-n
overflow_sub-n c = omega (arith, c.loop-left.invariant.counted)

pub flag_step-requires : goal.flag_step-requires
flag_step-requires c = record { previous_bound = c.loop-left.invariant.small; room_for = walk-room c.requires c.loop-left.invariant }

pub returns-in_err-s : goal.returns-in_err-s
returns-in_err-s c = let ds = elements_of c.args.«data».bits c.args.«data».bytes.now in
    let vs = elements_of c.args.value.bits c.args.value.bytes.now in
    let rs = elements_of 32 c.args.repeat.now in
    let inside = leb-false (length ds) c.loop-left.at.0 (sym c.data_ends.ensures ∙ c.if-data_ends.false) in
    let e = err_from_is_err_and c.from_residual.result c.from_residual.ensures.1 in
    rw (e.1, e.2)
    (walk_refused (width_of c.args.«data».bits c.args.«data».width) ds vs rs c.requires c.loop-left.invariant c.loop-left-test.true inside c.data_at-e.ensures c.power.ensures
    c.if-top-e.true c.flag_step.ensures c.in_err-s.was)

pub overflow_sub-left : goal.overflow_sub-left
overflow_sub-left c = let goes = c.in_ok-s.ensures.goes in
    omega (arith, goes.few, goes.given)

pub loop-left-smaller-then-top-e : goal.loop-left-smaller-then-top-e
loop-left-smaller-then-top-e c = let goes = c.in_ok-s.ensures.goes in
    omega (arith, goes.few, goes.some, goes.given)

pub loop-left-preserved-then-top-e : goal.loop-left-preserved-then-top-e
loop-left-preserved-then-top-e c = let ds = elements_of c.args.«data».bits c.args.«data».bytes.now in
    let vs = elements_of c.args.value.bits c.args.value.bytes.now in
    let rs = elements_of 32 c.args.repeat.now in
    let inside = leb-false (length ds) c.loop-left.at.0 (sym c.data_ends.ensures ∙ c.if-data_ends.false) in
    walk-flag (width_of c.args.«data».bits c.args.«data».width) ds vs rs c.requires c.loop-left.invariant c.loop-left-test.true inside c.data_at-e.ensures c.power.ensures
    c.if-top-e.true c.flag_step.ensures c.after_data-at.ensures c.in_ok-s.was (record { row = c.flag_step.auto.row; marks = c.flag_step.auto.marks })

pub shape_of-row-then-left-n : goal.shape_of-row-then-left-n
shape_of-row-then-left-n c = c.loop-left.invariant.long.row

pub shape_of-marks-then-left-n : goal.shape_of-marks-then-left-n
shape_of-marks-then-left-n c = c.loop-left.invariant.long.marks

pub returns-then-left-n : goal.returns-then-left-n
returns-then-left-n c = let ds = elements_of c.args.«data».bits c.args.«data».bytes.now in
    let vs = elements_of c.args.value.bits c.args.value.bytes.now in
    let rs = elements_of 32 c.args.repeat.now in
    let inside = leb-false (length ds) c.loop-left.at.0 (sym c.data_ends.ensures ∙ c.if-data_ends.false) in
    walk_first (width_of c.args.«data».bits c.args.«data».width) ds vs rs c.requires c.loop-left.invariant c.loop-left-test.true inside c.data_at-e.ensures c.power.ensures
    c.if-top-e.false c.if-left-n.true

pub differences-requires : goal.differences-requires
differences-requires c = let room = walk-room c.requires c.loop-left.invariant in
    record {
      top_value = ap (λ (h : ℕ). 2147483647 + h) c.power.ensures;
      left_lt_n = omega (arith, walk-few c.loop-left.invariant, c.if-left-n.false);
      previous_bound = c.loop-left.invariant.small;
      room_for = room;
    }

pub returns-in_err-s-2 : goal.returns-in_err-s-2
returns-in_err-s-2 c = let ds = elements_of c.args.«data».bits c.args.«data».bytes.now in
    let vs = elements_of c.args.value.bits c.args.value.bytes.now in
    let rs = elements_of 32 c.args.repeat.now in
    let e = err_from_is_err_and c.from_residual-in_err-s-2.result c.from_residual-in_err-s-2.ensures.1 in
    rw (e.1, e.2) (stretch-out ds vs rs c.requires c.loop-left.invariant c.differences.ensures c.in_err-s-2.was)

pub loop-left-smaller : goal.loop-left-smaller
loop-left-smaller c = let ds = elements_of c.args.«data».bits c.args.«data».bytes.now in
    let vs = elements_of c.args.value.bits c.args.value.bytes.now in
    let rs = elements_of 32 c.args.repeat.now in
    let inside = leb-false (length ds) c.loop-left.at.0 (sym c.data_ends.ensures ∙ c.if-data_ends.false) in
    let o = ordinary ds c.loop-left.at.0 (width_of c.args.«data».bits c.args.«data».width) inside c.data_at-e.ensures c.power.ensures c.if-top-e.false in
    stretch-less ds vs rs c.requires c.loop-left.invariant c.differences.ensures c.in_ok-s-2.was c.loop-left-test.true o

pub loop-left-preserved : goal.loop-left-preserved
loop-left-preserved c = let ds = elements_of c.args.«data».bits c.args.«data».bytes.now in
    let vs = elements_of c.args.value.bits c.args.value.bytes.now in
    let rs = elements_of 32 c.args.repeat.now in
    stretch-on ds vs rs c.requires c.loop-left.invariant c.differences.ensures c.in_ok-s-2.was

pub shape_of-row : goal.shape_of-row
shape_of-row c = c.loop-left.invariant.long.row

pub shape_of-marks : goal.shape_of-marks
shape_of-marks c = c.loop-left.invariant.long.marks

pub returns : goal.returns
returns c = let ds = elements_of c.args.«data».bits c.args.«data».bytes.now in
    let vs = elements_of c.args.value.bits c.args.value.bytes.now in
    let rs = elements_of 32 c.args.repeat.now in
    walk-done (width_of c.args.«data».bits c.args.«data».width) ds vs rs c.requires c.loop-left.invariant (omega (arith, c.loop-left-test.false))
