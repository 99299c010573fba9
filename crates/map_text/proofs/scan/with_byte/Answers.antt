-- `map_text::scan::with_byte` meets its contract. Assumes nothing.
use mathlib.Core.Path.{sym, ◌∙◌}
use borrow.Author.Tests.{eq-eqb, ne_eqb}
use Rattle.text.specs.Number.Laws.{with_digit-most}
use Rattle.map_text.specs.Scan.{with_byte}
use Rattle.map_text.proofs.scan.with_byte.Goals as goal

pub with_digit-requires : goal.with_digit-requires
with_digit-requires c = sym c.is_digit.ensures ∙ c.if-is_digit.true

pub scan_of-requires : goal.scan_of-requires
scan_of-requires c = rw c.with_digit.ensures (with_digit-most 65535 c.args.v c.args.b)

pub returns-then-is_digit : goal.returns-then-is_digit
unfolding with_byte
returns-then-is_digit c = rw (sym c.is_digit.ensures ∙ c.if-is_digit.true, ← c.with_digit.ensures) c.scan_of.ensures

pub returns-then-b-eq10 : goal.returns-then-b-eq10
unfolding with_byte
returns-then-b-eq10 c = rw (sym c.is_digit.ensures ∙ c.if-is_digit.false, eq-eqb c.args.b 10 c.if-b-eq10.true)

pub returns-then-is_gap : goal.returns-then-is_gap
unfolding with_byte
returns-then-is_gap c = rw (
  sym c.is_digit.ensures ∙ c.if-is_digit.false,
  ne_eqb c.args.b 10 c.if-b-eq10.false,
  sym c.is_gap.ensures ∙ c.if-is_gap.true,
)

pub returns : goal.returns
unfolding with_byte
returns c = rw (
  sym c.is_digit.ensures ∙ c.if-is_digit.false,
  ne_eqb c.args.b 10 c.if-b-eq10.false,
  sym c.is_gap.ensures ∙ c.if-is_gap.false,
)
