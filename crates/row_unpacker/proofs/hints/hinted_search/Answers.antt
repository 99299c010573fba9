-- `hints::hinted_search`: a codeword that begins the rest is the only one, and where the hint has none the whole table is
-- searched. Assumes nothing.
use Rattle.row_unpacker.proofs.search.Laws.{finds-only}
use Rattle.row_unpacker.proofs.hints.hinted_search.Goals as goal

pub returns-then-is_begun_by : goal.returns-then-is_begun_by
returns-then-is_begun_by c = finds-only c.args.table.now c.args.v c.requires c.in-Some.i c.word_at.result c.if-i-ge3.true
    c.if-i-table.true c.word_at.ensures c.is_begun_by.ensures c.if-is_begun_by.true
