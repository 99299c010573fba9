-- `fits_reader::integer::unsigned_digits` meets its contract. Assumes nothing.
use Rattle.std.proofs.Common.{arith, ℕ, ◌+◌, sym, ap, ◌∙◌, drop, get_or}
use Rattle.fits_reader.specs.Clipped.{digits_clipped}
use Rattle.fits_reader.specs.Clipped.Laws as laws
use Rattle.fits_reader.proofs.integer.unsigned_digits.Goals as goal

-- a byte that is no digit
pub returns-then-not-is_digit : goal.returns-then-not-is_digit
returns-then-not-is_digit c =
    let no_digit_lem = sym c.is_digit.ensures ∙ c.if-not-is_digit.true in
    sym (c.loop-b.invariant.1 ∙ laws.digits-not c.args.most c.args.field.now c.loop-b.b-index c.loop-b.value (omega arith) no_digit_lem)

pub overflow_sub-b : goal.overflow_sub-b
overflow_sub-b c =
    omega (arith, laws.digit-range (get_or c.args.field.now c.loop-b.b-index 0) (sym c.is_digit.ensures ∙ c.if-not-is_digit.false))

pub loop-b-preserved : goal.loop-b-preserved
loop-b-preserved c =
    let on = laws.digits-on c.args.most c.args.field.now c.loop-b.b-index c.loop-b.value (omega arith)
    (sym c.is_digit.ensures ∙ c.if-not-is_digit.false) in
    let kept = ap (λ (v : ℕ). digits_clipped c.args.most v (drop (c.loop-b.b-index + 1) c.args.field.now)) (sym c.min-value.ensures) in
    (omega arith, c.loop-b.invariant.1 ∙ on ∙ kept)

pub returns : goal.returns
returns c =
    sym (c.loop-b.invariant.1
    ∙ laws.digits-end c.args.most c.args.field.now c.loop-b.b-index c.loop-b.value (omega arith) (omega arith))
