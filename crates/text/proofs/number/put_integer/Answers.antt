-- `text::number::put_integer`: the sign, where there is one, and then the magnitude. Assumes nothing.
use native.Mathlib.Omega.{arith}
use Rattle.text.proofs.number.Laws.{put-negative, put-positive}
use Rattle.text.proofs.number.put_integer.Goals as goal

pub returns-then-v-lt0 : goal.returns-then-v-lt0
returns-then-v-lt0 c = record { put = put-negative c.args.v c.ranges.v c.if-v-lt0.true c.unsigned_abs-size.result c.unsigned_abs-size.ensures.value (omega arith) c.put_decimal.ensures.put; most = omega arith }

pub returns : goal.returns
returns c = record { put = put-positive c.args.v c.ranges.v c.if-v-lt0.false c.unsigned_abs-size.result c.unsigned_abs-size.ensures.value c.put_decimal-2.ensures.put; most = omega arith }
