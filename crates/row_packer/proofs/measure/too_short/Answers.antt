-- `row_packer::measure::too_short` meets its contract: no row takes more than the longest, and else it is measured. Assumes
-- nothing.
use native.Mathlib.Omega.{arith}
use mathlib.Core.Path.{ap, ◌∙◌}
use lib.Dec.{ltb}
use Rattle.bitstream.specs.Bits.{words_for}
use Rattle.row_format.specs.Table.Laws.{accepted-table}
use Rattle.row_packer.specs.Write.Laws.{longest-most, row_bits-most, longest-fits}
use Rattle.row_packer.proofs.measure.too_short.Goals as goal

pub overflow_mul-longest : goal.overflow_mul-longest
overflow_mul-longest c = record { fits = omega (arith, longest-most (accepted-table c.args.table.bytes.now c.args.table.accepted) c.args.row.pixels.now c.args.table.most_value c.args.row.few) }

pub words_for-requires : goal.words_for-requires
words_for-requires c = longest-most (accepted-table c.args.table.bytes.now c.args.table.accepted) c.args.row.pixels.now c.args.table.most_value c.args.row.few

pub returns-then-words_for-lent : goal.returns-then-words_for-lent
returns-then-words_for-lent c = longest-fits (accepted-table c.args.table.bytes.now c.args.table.accepted) c.args.row.pixels.now c.args.table.most_value c.args.row.few
    (omega (arith, c.words_for.ensures, c.if-words_for-lent.true))

pub words_for-requires-2 : goal.words_for-requires-2
words_for-requires-2 c = let few = row_bits-most (accepted-table c.args.table.bytes.now c.args.table.accepted) c.args.row.pixels.now c.args.table.most_value c.args.row.few in
    omega (arith, c.measure.ensures, few)

pub returns : goal.returns
returns c = ap (ltb c.args.lent) (c.words_for-2.ensures ∙ ap words_for c.measure.ensures)
