-- `unpack::stray_bit`: in whole words no bit is unused; else the window's lowest bits are those of the last word that are. Assumes nothing.
use Rattle.bitstream.specs.Bits.{stream}
use Rattle.row_unpacker.proofs.unpack.Laws.{stray-none, stray-low}
use Rattle.row_unpacker.proofs.unpack.stray_bit.Goals as goal

pub returns-then-last-eq0 : goal.returns-then-last-eq0
returns-then-last-eq0 c = stray-none (stream c.args.words.now) c.args.used c.if-last-eq0.true

pub returns : goal.returns
returns c = stray-low (stream c.args.words.now) c.args.used c.ahead-v.result c.ahead-v.ensures
    c.if-last-eq0.false c.low_bits.result c.low_bits.ensures
