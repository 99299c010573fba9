use native.Mathlib.Omega.{arith}
use Rattle.bitstream.specs.Bits.{words_of}
use Rattle.code_table.specs.Check.Laws.{length-words}
use Rattle.row_unpacker.specs.Search.{begun_by}
use Rattle.row_unpacker.proofs.search.Laws.{passed_none, passed-more, finds-here, finds-nowhere}
use Rattle.row_unpacker.proofs.search.search.Goals as goal

pub loop-i-init : goal.loop-i-init
loop-i-init c = passed_none begun_by (words_of c.args.table.now) c.args.v

pub overflow_sub-result : goal.overflow_sub-result
overflow_sub-result c = omega (arith, c.loop-i.invariant.least)

pub returns-then-is_begun_by : goal.returns-then-is_begun_by
returns-then-is_begun_by c = finds-here (words_of c.args.table.now) c.args.v c.loop-i.i c.word_at.result
    (omega (arith, length-words c.args.table.now)) c.word_at.ensures c.loop-i.invariant c.is_begun_by.ensures
    c.if-is_begun_by.true

pub loop-i-preserved : goal.loop-i-preserved
loop-i-preserved c = passed-more begun_by (words_of c.args.table.now) c.args.v c.loop-i.i c.word_at.result c.loop-i.invariant
    c.word_at.ensures c.is_begun_by.ensures c.if-is_begun_by.false

pub returns : goal.returns
returns c = finds-nowhere (words_of c.args.table.now) c.args.v c.loop-i.i c.loop-i.invariant
    (omega (arith, length-words c.args.table.now))
