-- `fits_reader::header::is_image` meets its contract: a clipped integer tells 16 and 2 from all others. Assumes nothing.
use Rattle.std.proofs.Common.{arith, sym, ◌∙◌, eq-eqb, ne_eqb}
use Rattle.fits_format.specs.Header.{card_integer}
use Rattle.fits_reader.proofs.header.Laws.{clipped-number}
use Rattle.fits_reader.proofs.header.is_image.Goals as goal

pub returns-then-card_integer-eq16 : goal.returns-then-card_integer-eq16
unfolding card_integer
returns-then-card_integer-eq16 c = rw (
  sym (rw c.header_cards-cards.ensures at c.is_true.ensures) ∙ c.if-is_true.true,
  ← clipped-number 16 (card_integer "BITPIX  " 1 c.args.fits.now) (omega arith) (omega arith),
  ← (rw c.header_cards-cards.ensures at c.card_integer.ensures),
  eq-eqb c.card_integer.result 16 c.if-card_integer-eq16.true,
  ← clipped-number 2 (card_integer "NAXIS   " 2 c.args.fits.now) (omega arith) (omega arith),
  ← (rw c.header_cards-cards.ensures at c.card_integer-then-card_integer-eq16.ensures),
)

pub returns-else-card_integer-eq16 : goal.returns-else-card_integer-eq16
unfolding card_integer
returns-else-card_integer-eq16 c = rw (
  sym (rw c.header_cards-cards.ensures at c.is_true.ensures) ∙ c.if-is_true.true,
  ← clipped-number 16 (card_integer "BITPIX  " 1 c.args.fits.now) (omega arith) (omega arith),
  ← (rw c.header_cards-cards.ensures at c.card_integer.ensures),
  ne_eqb c.card_integer.result 16 c.if-card_integer-eq16.false,
)

pub returns-else-is_true : goal.returns-else-is_true
returns-else-is_true c = rw (sym (rw c.header_cards-cards.ensures at c.is_true.ensures) ∙ c.if-is_true.false)
