-- `text::line::put_two` meets its contract: its parts one after the other. Assumes nothing.
use native.Mathlib.Omega.{arith}
use Rattle.text.specs.Put.Laws.{put-put}
use Rattle.text.proofs.line.put_two.Goals as goal

pub returns-clause-put : goal.returns-clause-put
returns-clause-put c = put-put (omega arith) c.put_fields-next.ensures.put c.put_bytes.ensures
