-- `delta_reader::step::last_value` meets its contract. Assumes nothing.
use native.Mathlib.Omega.{arith}
use lib.ListN.{drop, length-drop}
use Rattle.delta_format.specs.Numbers.{elements_of}
use Rattle.delta_reader.specs.Step.Laws.{last_none, last_some}
use Rattle.delta_reader.specs.Offset.Laws.{width_of}
use Rattle.delta_reader.proofs.step.last_value.Goals as goal

pub returns-then-n-eq0 : goal.returns-then-n-eq0
returns-then-n-eq0 c = last_none (drop c.args.from.0 (elements_of c.args.value.bits c.args.value.bytes.now)) c.if-n-eq0.true c.requires.previous_bound

pub value_at-requires : goal.value_at-requires
value_at-requires c = let all = elements_of c.args.value.bits c.args.value.bytes.now in
    omega (arith, c.requires.n_in_bounds, length-drop c.args.from.0 all, c.if-n-eq0.false)

pub returns : goal.returns
returns c = last_some (elements_of c.args.value.bits c.args.value.bytes.now) c.args.from.0 c.args.n c.if-n-eq0.false c.requires.n_in_bounds (width_of c.args.value.bits c.args.value.width)
    c.value_at.ensures
