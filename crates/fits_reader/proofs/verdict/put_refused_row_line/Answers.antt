-- `fits_reader::verdict::put_refused_row_line` meets its contract: its parts one after the other. Assumes nothing.
use Prim.Native.Nat.{◌≤◌}
use native.Mathlib.Omega.{arith}
use lib.ListN.{length}
use Rattle.text.specs.Put.Laws.{put-put}
use borrow.Author.Rules.{rules}
use Rattle.fits_reader.proofs.verdict.put_refused_row_line.Goals as goal

pub returns : goal.returns
returns c = let room : 0 ≤ length c.args.out.now = omega arith in
    record { put = put-put room c.put_fields-next.ensures.put c.put_bytes.ensures; most = search rules }
