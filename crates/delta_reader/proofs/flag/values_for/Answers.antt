-- `delta_reader::flag::values_for` meets its contract. Assumes nothing.
use mathlib.Core.Path.{sym, ◌∙◌}
use Rattle.delta_reader.specs.Flags.{flag_at}
use Rattle.delta_reader.specs.Flags.Laws.{values-fulls, values-last, values-next, values_one}
use Rattle.delta_reader.proofs.flag.values_for.Goals as goal

pub returns-then-down-gt3 : goal.returns-then-down-gt3
returns-then-down-gt3 c = values-fulls c.args.down c.args.left c.args.count c.if-down-gt3.true

pub returns-then-count-left : goal.returns-then-count-left
returns-then-count-left c = values-last (flag_at c.args.down) c.args.left c.args.count (sym c.if-is_bad.true ∙ c.is_bad.ensures) c.if-count-left.true

pub returns-else-count-left : goal.returns-else-count-left
returns-else-count-left c = values-next (flag_at c.args.down) c.args.left c.args.count (sym c.if-is_bad.true ∙ c.is_bad.ensures) c.if-count-left.false

pub returns : goal.returns
returns c = values_one c.args.down c.args.left c.args.count c.if-down-gt3.false (sym c.if-is_bad.false ∙ c.is_bad.ensures)
