-- `item::item_found`: escape, bad pixel, bad bias or an entry, by the codeword's place. Assumes nothing.
use native.Mathlib.Omega.{arith}
use mathlib.Core.Path.{◌∙◌}
use lib.ListN.{drop}
use Rattle.bitstream.specs.Bits.{words_of, stream}
use Rattle.row_item.specs.Coded.{row_state}
use Rattle.row_unpacker.proofs.item.Laws.{found-escape, found-bad-pixel, found-bad-bias, found-entry}
use Rattle.row_unpacker.proofs.item.item_found.Goals as goal

pub returns-in-0 : goal.returns-in-0
returns-in-0 c = found-escape (words_of c.args.table.now) (row_state c.args.p) (drop c.args.at (stream c.args.words.now)) c.args.at
    c.args.j c.word_at.result c.word_at.ensures c.in-0.is _ c.height_after.ensures

pub returns-in-1 : goal.returns-in-1
returns-in-1 c = found-bad-pixel (words_of c.args.table.now) (row_state c.args.p) (drop c.args.at (stream c.args.words.now)) c.args.at
    c.args.j c.word_at.result c.word_at.ensures c.in-1.is

pub returns-in-2 : goal.returns-in-2
returns-in-2 c = found-bad-bias (words_of c.args.table.now) (row_state c.args.p) (drop c.args.at (stream c.args.words.now)) c.args.at
    c.args.j c.word_at.result c.word_at.ensures c.in-2.is

pub returns-in_default : goal.returns-in_default
returns-in_default c = c.entry_found.ensures ∙ found-entry (words_of c.args.table.now) (row_state c.args.p)
    (drop c.args.at (stream c.args.words.now)) c.args.at c.args.j c.word_at.result c.word_at.ensures
    (omega arith)
