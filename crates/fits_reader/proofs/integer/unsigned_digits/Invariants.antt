-- `fits_reader::integer::unsigned_digits` meets its contract: the bytes before b are digits of which value is kept, so that what is left
-- decides. Assumes nothing.
use Rattle.std.proofs.Common.{◌≡◌, ◌≤◌, drop}
use Rattle.fits_reader.specs.Clipped.{digits_clipped}
use Rattle.fits_reader.proofs.integer.unsigned_digits.Given as goal

abbrev pub invariant-loop-b : goal.invariant-loop-b
invariant-loop-b l = (l.value ≤ l.most) × (digits_clipped l.most 0 l.field ≡ digits_clipped l.most l.value (drop l.b-index l.field))
