-- `pgm_reader::put::put_pgm_header` meets its contract. Assumes nothing.
use native.Mathlib.Omega.{arith}
use Rattle.text.specs.Put.Laws.{put-put}
use Rattle.pgm_format.specs.Header.{pgm_front}
use Rattle.pgm_reader.proofs.put.put_pgm_header.Goals as goal

pub returns : goal.returns
unfolding pgm_front
returns c = record { put = put-put (omega arith) c.put_fields-next.ensures.put c.put_bytes.ensures; most = omega (arith, c.put_bytes.ensures.next) }
