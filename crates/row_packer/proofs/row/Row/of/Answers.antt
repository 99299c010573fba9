-- `row_packer::row::Row::of` meets its contract: 11, 4 or none. Assumes nothing.
use mathlib.Core.Path.{sym, ◌∙◌}
use Rattle.row_packer.proofs.Laws.{judged-many, judged}
use Rattle.row_packer.proofs.row.Row.of.Goals as goal

pub returns-then-pixels-gt-MAX_PIXELS-clause-number : goal.returns-then-pixels-gt-MAX_PIXELS-clause-number
returns-then-pixels-gt-MAX_PIXELS-clause-number c = judged-many c.args.pixels.now c.if-pixels-gt-MAX_PIXELS.true

pub returns-then-any_above-clause-number : goal.returns-then-any_above-clause-number
returns-then-any_above-clause-number c =
    judged c.args.pixels.now c.if-pixels-gt-MAX_PIXELS.false (sym c.if-any_above.true ∙ c.any_above.ensures)

pub returns-clause-number : goal.returns-clause-number
returns-clause-number c =
    judged c.args.pixels.now c.if-pixels-gt-MAX_PIXELS.false (sym c.if-any_above.false ∙ c.any_above.ensures)
