-- `delta_reader::step::flag_step` meets its contract. Assumes nothing.
use native.Mathlib.Omega.{arith}
use Rattle.std.proofs.lemmas.Result.{err_from_is_err_and}
use lib.ListN.{drop}
use Rattle.delta_format.specs.Numbers.{elements_of}
use Rattle.delta_reader.specs.Flags.{flag_at}
use Rattle.delta_reader.specs.Flags.Takes.{taken-goes, takes-values, takes-few}
use Rattle.delta_reader.specs.Step.Laws.{room-some}
use Rattle.delta_reader.specs.Step.Goes.{counted-inside, step-done, step-refused}
use lib.ListN.{length-drop}
use Rattle.delta_reader.specs.Offset.{thirty_two}
use Rattle.delta_reader.specs.Offset.Laws.{elements-few}
use Rattle.delta_reader.specs.Offset.Laws.{width_of}
use Rattle.delta_reader.proofs.step.flag_step.Goals as goal

pub put_flag-requires : goal.put_flag-requires
put_flag-requires c = let vs = elements_of c.args.value.bits c.args.value.bytes.now in
    let rs = elements_of 32 c.args.repeat.now in
    let takes =
    taken-goes (flag_at c.args.down) c.args.left (drop c.args.from.0 vs) (drop c.args.counts.0 rs) c.in_ok-t.ensures in
    record { flag_values = takes-values takes; room_for = room-some _ c.requires.room_for (takes-few (flag_at c.args.down) takes) }

pub given-requires : goal.given-requires
given-requires c = let vs = elements_of c.args.value.bits c.args.value.bytes.now in
    let rs = elements_of 32 c.args.repeat.now in
    let takes =
    taken-goes (flag_at c.args.down) c.args.left (drop c.args.from.0 vs) (drop c.args.counts.0 rs) c.in_ok-t.ensures in
    let few = elements-few c.args.value.bytes.now (width_of c.args.value.bits c.args.value.width) in
    omega (arith, takes.most, takes.enough, length-drop c.args.from.0 vs, few, c.requires.room_for.marks)

pub last_value-requires : goal.last_value-requires
last_value-requires c = let vs = elements_of c.args.value.bits c.args.value.bytes.now in
    let rs = elements_of 32 c.args.repeat.now in
    let takes =
    taken-goes (flag_at c.args.down) c.args.left (drop c.args.from.0 vs) (drop c.args.counts.0 rs) c.in_ok-t.ensures in
    record { previous_bound = c.requires.previous_bound; n_in_bounds = takes.enough }

pub after_values-requires : goal.after_values-requires
after_values-requires c = let vs = elements_of c.args.value.bits c.args.value.bytes.now in
    let rs = elements_of 32 c.args.repeat.now in
    let takes =
    taken-goes (flag_at c.args.down) c.args.left (drop c.args.from.0 vs) (drop c.args.counts.0 rs) c.in_ok-t.ensures in
    let few = elements-few c.args.value.bytes.now (width_of c.args.value.bits c.args.value.width) in
    omega (arith, takes.enough, length-drop c.args.from.0 vs, few)

pub returns-in_err-t : goal.returns-in_err-t
returns-in_err-t c = let vs = elements_of c.args.value.bits c.args.value.bytes.now in
    let rs = elements_of 32 c.args.repeat.now in
    let e = err_from_is_err_and c.from_residual.result c.from_residual.ensures.1 in
    rw (e.1, e.2)
    (step-refused (flag_at c.args.down) c.args.left vs rs c.args.from.0 c.args.counts.0 c.in_err-t.field-0.0 c.in_err-t.ensures)

pub after_count-requires : goal.after_count-requires
after_count-requires c = let vs = elements_of c.args.value.bits c.args.value.bytes.now in
    let rs = elements_of 32 c.args.repeat.now in
    λ counted.
    let inside =
    counted-inside (flag_at c.args.down) c.args.left (drop c.args.from.0 vs) rs c.args.counts.0 c.in_ok-t.ensures counted in
    omega (arith, inside, elements-few c.args.repeat.now thirty_two)

pub returns : goal.returns
returns c = let vs = elements_of c.args.value.bits c.args.value.bytes.now in
    let rs = elements_of 32 c.args.repeat.now in
    let takes =
    taken-goes (flag_at c.args.down) c.args.left (drop c.args.from.0 vs) (drop c.args.counts.0 rs) c.in_ok-t.ensures in
    step-done vs rs c.args.from.0 c.args.counts.0 takes c.put_flag.ensures c.given.ensures
    c.last_value.ensures c.after_values.ensures c.after_count.ensures
