-- `pgm_reader::header::blank_at` meets its contract: past the end a 0 is read, which is no blank. Assumes nothing.
use lib.ListN.{get_or-eq_default}
use Rattle.std.proofs.Common.{arith}
use Rattle.pgm_format.specs.Header.{is_blank}
use Rattle.pgm_reader.proofs.header.blank_at.Goals as goal

pub returns-else-at-bytes : goal.returns-else-at-bytes
unfolding is_blank
returns-else-at-bytes c = rw (get_or-eq_default c.args.bytes.now 0 {n = c.args.at} (omega arith))
