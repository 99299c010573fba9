-- `text_to_map::verdict::put_done` meets its contract. Assumes nothing.
use native.Mathlib.Omega.{arith}
use Rattle.text.specs.Put.Laws.{put-put}
use borrow.Author.Rules.{rules}
use Rattle.text_to_map.proofs.verdict.put_done.Goals as goal

pub returns : goal.returns
returns c = record { put = put-put (omega arith) c.put_fields-next.ensures.put c.put_bytes.ensures; most = search rules }
