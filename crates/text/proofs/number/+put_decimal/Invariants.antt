-- The measure of the cycle of calls {put_decimal} is the number, of which a tenth goes on. Assumes nothing.
use Rattle.text.proofs.number.+put_decimal.Given as goal

abbrev pub decreases-put_decimal : goal.decreases-put_decimal
decreases-put_decimal l = l.n
