-- `item::height_after`: 6 where 12 bits are not left, 9 for 4094 and 4095. Assumes nothing.
use native.Mathlib.Omega.{arith}
use Rattle.bitstream.specs.Bits.{stream}
use Rattle.row_unpacker.proofs.item.Laws.{height-short, height-got, height-bad}
use Rattle.row_unpacker.proofs.item.height_after.Goals as goal

pub returns-then-v-lt12 : goal.returns-then-v-lt12
returns-then-v-lt12 c = height-short (stream c.args.words.now) c.args.at c.args.len c.ahead-v.result c.ahead-v.ensures
    (omega arith)

pub returns-then-height-lt4094 : goal.returns-then-height-lt4094
returns-then-height-lt4094 c = height-got (stream c.args.words.now) c.args.at c.args.len c.ahead-v.result c.ahead-v.ensures
    (omega arith) (omega arith)

pub returns : goal.returns
returns c = height-bad (stream c.args.words.now) c.args.at c.args.len c.ahead-v.result c.ahead-v.ensures
    (omega arith) (omega arith)
