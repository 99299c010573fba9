-- `delta_reader::step::after_count` meets its contract. Assumes nothing.
use mathlib.Core.Path.{sym, ◌∙◌}
use Rattle.delta_reader.specs.Flags.{flag_at}
use Rattle.delta_reader.specs.Step.Laws.{place-counted}
use Rattle.delta_reader.proofs.step.after_count.Goals as goal

pub after_repeat-requires : goal.after_repeat-requires
after_repeat-requires c = c.requires (sym c.is_counted.ensures ∙ c.if-is_counted.true)

pub returns-then-is_counted : goal.returns-then-is_counted
returns-then-is_counted c = place-counted (flag_at c.args.down) c.args.at.0 (sym c.if-is_counted.true ∙ c.is_counted.ensures) c.after_repeat.ensures
