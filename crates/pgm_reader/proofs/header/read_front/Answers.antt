-- `pgm_reader::header::read_front` meets its contract. Assumes nothing.
use Rattle.std.proofs.Common.{sym, ◌∙◌}
use Rattle.pgm_format.specs.Header.Laws.{front-unlike}
use Rattle.pgm_reader.proofs.header.read_front.Goals as goal

pub returns : goal.returns
returns c = sym (front-unlike c.args.bytes.now (sym c.begins.ensures ∙ c.if-begins.false))
