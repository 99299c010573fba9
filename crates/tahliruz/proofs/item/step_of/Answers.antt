-- `tahliruz::item::step_of` meets its contract: by the kind of item; a difference fits an i32. Assumes nothing.
use mathlib.Core.Path.{sym, ap, ◌∙◌}
use borrow.Author.Rules.{rules}
use mir.Facts.{to_z-of_z}
use mir.Syntax.{w32}
use Rattle.tahliruz.specs.Items.{item_step}
use Rattle.tahliruz.proofs.item.step_of.Goals as goal

pub returns-in-Difference : goal.returns-in-Difference
returns-in-Difference c = to_z-of_z {w = w32} (search rules) ∙ sym (ap item_step c.in-Difference.is)

pub returns-in-BadPixel : goal.returns-in-BadPixel
returns-in-BadPixel c = sym (ap item_step c.in-BadPixel.is)

pub returns-in-BadBias : goal.returns-in-BadBias
returns-in-BadBias c = sym (ap item_step c.in-BadBias.is)

pub returns-in-Escape : goal.returns-in-Escape
returns-in-Escape c = sym (ap item_step c.in-Escape.is)
