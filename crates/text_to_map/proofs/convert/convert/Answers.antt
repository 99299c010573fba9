-- `text_to_map::convert::convert` is safe: a text is converted where it is one. Assumes nothing.
use mathlib.Core.Path.{sym, ◌∙◌}
use Rattle.text_to_map.specs.Made.Laws.{not-text}
use Rattle.text_to_map.proofs.convert.convert.Goals as goal

pub refuse_text-requires : goal.refuse_text-requires
refuse_text-requires c = not-text c.in_ok-taken.ensures (sym c.is_text.ensures ∙ c.if-is_text.false)
