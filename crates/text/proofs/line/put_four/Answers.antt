-- `text::line::put_four` meets its contract: its parts one after the other. Assumes nothing.
use native.Mathlib.Omega.{arith}
use Rattle.text.specs.Put.Laws.{put-put}
use Rattle.text.proofs.line.put_four.Goals as goal

pub returns-clause-put : goal.returns-clause-put
returns-clause-put c = put-put (omega arith) c.put_fields-middle.ensures.put c.put_two.ensures.put
