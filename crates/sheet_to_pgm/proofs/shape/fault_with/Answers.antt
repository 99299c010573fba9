-- `sheet_to_pgm::shape::fault_with` meets its contract. Assumes nothing.
use borrow.Author.Tests.{lt-ltb, le-ltb, eq-eqb, ne_eqb}
use Rattle.sheet_to_pgm.proofs.shape.fault_with.Goals as goal

pub returns-then-count-row : goal.returns-then-count-row
returns-then-count-row c = rw (lt-ltb c.args.count c.args.row c.if-count-row.true)

pub returns-then-heights-first : goal.returns-then-heights-first
returns-then-heights-first c = rw (le-ltb c.args.count c.args.row c.if-count-row.false, eq-eqb c.args.heights c.args.first c.if-heights-first.true)

pub returns : goal.returns
returns c = rw (le-ltb c.args.count c.args.row c.if-count-row.false, ne_eqb c.args.heights c.args.first c.if-heights-first.false)
