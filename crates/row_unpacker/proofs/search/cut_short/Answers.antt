use native.Mathlib.Omega.{arith}
use Rattle.bitstream.specs.Bits.{begins, words_of}
use Rattle.code_table.specs.Check.Laws.{length-words}
use Rattle.row_unpacker.proofs.search.Laws.{passed_none, passed-more, short-long, short-here, short-nowhere}
use Rattle.row_unpacker.proofs.search.cut_short.Goals as goal

pub returns-then-v-gt31 : goal.returns-then-v-gt31
returns-then-v-gt31 c = short-long (words_of c.args.table.now) c.args.v (omega arith)

pub loop-i-init : goal.loop-i-init
loop-i-init c = passed_none begins (words_of c.args.table.now) c.args.v

pub returns-then-begins : goal.returns-then-begins
returns-then-begins c = short-here (words_of c.args.table.now) c.args.v c.loop-i.i c.word_at.result
    (omega (arith, length-words c.args.table.now)) c.word_at.ensures c.loop-i.invariant
    c.begins.ensures c.if-begins.true

pub loop-i-preserved : goal.loop-i-preserved
loop-i-preserved c = passed-more begins (words_of c.args.table.now) c.args.v c.loop-i.i c.word_at.result c.loop-i.invariant
    c.word_at.ensures c.begins.ensures c.if-begins.false

pub returns : goal.returns
returns c = short-nowhere (words_of c.args.table.now) c.args.v c.loop-i.i c.loop-i.invariant
    (omega (arith, length-words c.args.table.now))
