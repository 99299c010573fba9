-- `text::read::with_digit` meets its contract: a number is above `most` where its tenth is above the most tenth. Assumes nothing.
use native.Mathlib.Omega.{arith}
use mathlib.Core.Path.{refl, sym}
use Rattle.text.specs.Number.Laws.{digit_low, with_digit-more, with_digit-is}
use Rattle.text.proofs.read.with_digit.Goals as goal

pub overflow_sub-d : goal.overflow_sub-d
overflow_sub-d c = digit_low c.args.b c.requires

pub returns-then-most-d : goal.returns-then-most-d
returns-then-most-d c = sym (with_digit-more c.args.most c.args.v c.args.b (omega (arith, c.if-most-d.true)))

pub returns-then-most-d-2 : goal.returns-then-most-d-2
returns-then-most-d-2 c = sym (with_digit-more c.args.most c.args.v c.args.b (omega (arith, c.if-most-d-2.true)))

pub returns : goal.returns
returns c = sym (with_digit-is c.args.most c.args.v c.args.b _ refl (omega (arith, c.if-most-d-2.false)))
