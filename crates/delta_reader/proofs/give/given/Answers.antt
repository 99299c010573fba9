-- `delta_reader::give::given` meets its contract. Assumes nothing.
use mathlib.Core.Path.{sym, ◌∙◌}
use Rattle.delta_reader.specs.Flags.{flag_at}
use Rattle.delta_reader.specs.Step.Laws.{given-bad, given-else}
use Rattle.delta_reader.proofs.give.given.Goals as goal

pub returns-then-is_bad : goal.returns-then-is_bad
returns-then-is_bad c = given-bad (flag_at c.args.down) c.args.t.count c.args.t.values (sym c.if-is_bad.true ∙ c.is_bad.ensures)

pub returns : goal.returns
returns c = given-else c.args.down c.args.t.count c.args.t.values c.if-down-eq1.false (sym c.if-is_bad.false ∙ c.is_bad.ensures)
