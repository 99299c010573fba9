-- `delta_reader::give::put_flag` meets its contract. Assumes nothing.
use native.Mathlib.Omega.{arith}
use mathlib.Core.Path.{sym, ◌∙◌}
use lib.ListN.{drop}
use Rattle.delta_format.specs.Numbers.{elements_of}
use Rattle.delta_reader.specs.Flags.{flag_at}
use Rattle.delta_reader.specs.Step.Laws.{
  given-same,
  given-bad,
  given-else,
  put_if,
  put-if-not,
  room-some,
  room_after,
  one_inside,
  puts-same,
  puts-bads,
  puts-else,
}
use Rattle.delta_reader.specs.Offset.Laws.{width_of}
use Rattle.delta_reader.proofs.give.put_flag.Goals as goal

pub returns-then-not-write : goal.returns-then-not-write
returns-then-not-write c = put-if-not c.if-not-write.true

pub value_at-requires : goal.value_at-requires
value_at-requires c = let all = elements_of c.args.value.bits c.args.value.bytes.now in
    one_inside all c.args.from.0 c.args.t.values c.args.down c.if-down-eq1.true c.requires.flag_values

pub put_run-requires : goal.put_run-requires
put_run-requires c = let few = given-same c.args.down c.args.t.count c.args.t.values c.if-down-eq1.true in
    room-some c.args.t.count c.requires.room_for (omega (arith, few))

pub returns-then-down-eq1 : goal.returns-then-down-eq1
returns-then-down-eq1 c = let all = elements_of c.args.value.bits c.args.value.bytes.now in
    put_if c.if-not-write.false
    (puts-same all c.args.from.0 c.args.down c.args.t.count c.args.t.values c.if-down-eq1.true c.requires.flag_values (width_of c.args.value.bits c.args.value.width)
    c.value_at.ensures c.put_run.ensures)

pub put_run-requires-then-is_bad : goal.put_run-requires-then-is_bad
put_run-requires-then-is_bad c = let few = given-bad (flag_at c.args.down) c.args.t.count c.args.t.values (sym c.if-is_bad.true ∙ c.is_bad.ensures) in
    room-some c.args.t.count c.requires.room_for (omega (arith, few))

pub overflow_add-at : goal.overflow_add-at
overflow_add-at c = let few = given-bad (flag_at c.args.down) c.args.t.count c.args.t.values (sym c.if-is_bad.true ∙ c.is_bad.ensures) in
    record { fits = omega (arith, few, c.requires.room_for.marks) }

pub put_values-requires : goal.put_values-requires
put_values-requires c = let bad = sym c.if-is_bad.true ∙ c.is_bad.ensures in
    let few = given-bad (flag_at c.args.down) c.args.t.count c.args.t.values bad in
    record { room_for = room_after c.args.t.count c.args.t.values c.requires.room_for (record { row = c.put_run-then-is_bad.auto.row; marks = c.put_run-then-is_bad.auto.marks }) (omega (arith, few)); count_in_bounds = c.requires.flag_values.enough }

pub returns-then-is_bad : goal.returns-then-is_bad
returns-then-is_bad c = let vs = drop c.args.from.0 (elements_of c.args.value.bits c.args.value.bytes.now) in
    let bad = sym c.if-is_bad.true ∙ c.is_bad.ensures in
    put_if c.if-not-write.false
    (puts-bads vs (flag_at c.args.down) c.args.t.count c.args.t.values bad c.requires.flag_values c.requires.room_for c.put_run-then-is_bad.ensures
    c.put_values.ensures)

pub put_values-requires-2 : goal.put_values-requires-2
put_values-requires-2 c = let else = sym c.if-is_bad.false ∙ c.is_bad.ensures in
    let few = given-else c.args.down c.args.t.count c.args.t.values c.if-down-eq1.false else in
    record { room_for = room-some c.args.t.values c.requires.room_for (omega (arith, few)); count_in_bounds = c.requires.flag_values.enough }

pub returns : goal.returns
returns c = let vs = drop c.args.from.0 (elements_of c.args.value.bits c.args.value.bytes.now) in
    let else = sym c.if-is_bad.false ∙ c.is_bad.ensures in
    put_if c.if-not-write.false
    (puts-else vs c.args.down c.args.t.count c.args.t.values c.if-down-eq1.false else c.put_values-2.ensures)
