-- `text::number::put_fields`: one after the other. Assumes nothing.
use native.Mathlib.Omega.{arith}
use Rattle.text.specs.Put.Laws.{put-put}
use Rattle.text.proofs.number.put_fields.Goals as goal

pub returns-clause-put : goal.returns-clause-put
returns-clause-put c = put-put (omega arith) c.put_field-next.ensures.put c.put_field.ensures.put
