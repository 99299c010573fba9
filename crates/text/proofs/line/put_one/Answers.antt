-- `text::line::put_one` meets its contract: its parts one after the other. Assumes nothing.
use native.Mathlib.Omega.{arith}
use Rattle.text.specs.Put.Laws.{put-put}
use Rattle.text.proofs.line.put_one.Goals as goal

pub returns-clause-put : goal.returns-clause-put
returns-clause-put c = put-put (omega arith) c.put_field-next.ensures.put c.put_bytes.ensures
