-- `fits_reader::integer::fixed_integer` meets its contract: the bytes before i are blanks, so that what is left decides. Assumes nothing.
use Rattle.std.proofs.Common.{◌≡◌, drop}
use Rattle.fits_format.specs.Card.{fixed_integer}
use Rattle.fits_reader.proofs.integer.fixed_integer.Given as goal

abbrev pub invariant-loop-i : goal.invariant-loop-i
invariant-loop-i l = fixed_integer l.field ≡ fixed_integer (drop l.i l.field)
