-- `fits_reader::integer::fixed_integer` meets its contract. Assumes nothing.
use Rattle.std.proofs.Common.{arith, sym, ◌∙◌}
use Rattle.fits_reader.specs.Clipped.Laws as laws
use Rattle.fits_reader.proofs.integer.fixed_integer.Goals as goal

pub signed_digits-requires : goal.signed_digits-requires
signed_digits-requires c = rw (laws.take_rest c.args.field.now c.loop-i.i) (laws.not-blank c.args.field.now c.loop-i.i (omega arith) c.if-b-ne32.true)

-- no blank
pub returns-then-b-ne32 : goal.returns-then-b-ne32
returns-then-b-ne32 c = rw c.loop-i.invariant (rw (laws.take_rest c.args.field.now c.loop-i.i) at c.signed_digits.ensures)

pub loop-i-preserved : goal.loop-i-preserved
loop-i-preserved c = c.loop-i.invariant ∙ laws.integer-blank c.args.field.now c.loop-i.i (omega arith) c.if-b-ne32.false

-- nothing but blanks
pub returns : goal.returns
returns c = rw c.loop-i.invariant (sym (laws.integer-none c.args.field.now c.loop-i.i (omega arith)))
