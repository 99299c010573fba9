-- `map_text::counts::keep_ended` meets its contract. Assumes nothing.
use mathlib.Core.Path.{sym, ◌∙◌}
use mathlib.Core.List.{append-nil}
use Rattle.map_text.specs.Scan.{counted_by}
use Rattle.map_text.proofs.counts.keep_ended.Goals as goal

pub returns-then-is_space : goal.returns-then-is_space
unfolding counted_by
returns-then-is_space c = λ xs held. rw (sym c.is_space.ensures ∙ c.if-is_space.true) (c.keep_last.ensures xs held)

pub returns : goal.returns
unfolding counted_by
returns c = λ xs held. rw (sym c.is_space.ensures ∙ c.if-is_space.false, append-nil xs) held
