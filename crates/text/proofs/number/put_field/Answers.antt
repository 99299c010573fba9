-- `text::number::put_field`: the words and then the number. Assumes nothing.
use native.Mathlib.Omega.{arith}
use Rattle.text.specs.Put.Laws.{put-put}
use Rattle.text.proofs.number.put_field.Goals as goal

pub returns-clause-put : goal.returns-clause-put
returns-clause-put c = put-put (omega arith) c.put_bytes-next.ensures c.put_decimal.ensures.put
