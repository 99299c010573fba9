-- `pgm_reader::header::pgm_header` meets its contract. Assumes nothing.
use Rattle.pgm_format.specs.Header.{pgm_header}
use Rattle.pgm_format.specs.Header.Laws.{take_min}
use Rattle.pgm_reader.proofs.header.pgm_header.Goals as goal

pub returns : goal.returns
unfolding pgm_header
returns c = rw (c.min-n.ensures, take_min 65536 c.args.bytes.now) at c.read_front.ensures
