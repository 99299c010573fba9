-- `map_text::map::put_done_bits` meets its contract. Assumes nothing.
use native.Mathlib.Omega.{arith}
use Rattle.text.specs.Put.Laws.{put-put}
use borrow.Author.Rules.{rules}
use Rattle.map_text.proofs.map.put_done_bits.Goals as goal

pub returns : goal.returns
returns c = record { put = put-put (omega arith) c.put_field-next.ensures.put c.put_bytes.ensures; most = search rules }
