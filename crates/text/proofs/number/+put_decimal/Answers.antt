-- `text::number::put_decimal` meets its contract: the digits before the last are at most 19. Assumes nothing.
use Rattle.std.proofs.Common.{◌+◌, ◌/◌, ◌<◌, arith}
use Rattle.text.specs.Text.Laws.{length-decimal}
use Rattle.text.proofs.number.PutDecimalLaws.{put-digit, put-digits}
use Rattle.text.proofs.number.+put_decimal.Goals as goal

-- one digit
pub returns-then-n-lt10-clause-put : goal.returns-then-n-lt10-clause-put
returns-then-n-lt10-clause-put t c = put-digit c.args.n c.if-n-lt10.true (omega arith)

pub bounds-out-next : goal.bounds-out-next
bounds-out-next t c = omega (arith, length-decimal 18 (c.args.n / 10) (omega arith))

-- more digits
pub returns-clause-put : goal.returns-clause-put
returns-clause-put t c =
    let more : c.put_decimal-next.result < c.args.at + 20 = omega (arith, length-decimal 18 (c.args.n / 10) (omega arith)) in
    put-digits c.args.n c.if-n-lt10.false (omega arith) c.put_decimal-next.auto.out c.put_decimal-next.ensures.put

pub returns-clause-most : goal.returns-clause-most
returns-clause-most t c = omega (arith, length-decimal 18 (c.args.n / 10) (omega arith))
