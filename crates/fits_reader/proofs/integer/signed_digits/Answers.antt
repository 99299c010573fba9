-- `fits_reader::integer::signed_digits` meets its contract. Assumes nothing.
use mathlib.Core.Path.{sym, ◌∙◌}
use Rattle.fits_reader.specs.Clipped.Laws as laws
use Rattle.fits_reader.proofs.integer.signed_digits.Goals as goal

-- a plus sign
pub returns-then-field-eq43 : goal.returns-then-field-eq43
returns-then-field-eq43 c = (rw (laws.take_rest c.args.field.now 1) at c.unsigned_digits.ensures) ∙ sym (laws.integer-plus c.args.field.now c.requires c.if-field-eq43.true)

-- none, or a minus sign
pub returns : goal.returns
returns c = c.unsigned_digits-2.ensures ∙ sym (laws.integer-other c.args.field.now c.requires c.if-field-eq43.false)
