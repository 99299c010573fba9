-- `item::entry_found`: 8 where the difference leads below 0 or above 4093. Assumes nothing.
use Rattle.bitstream.specs.Bits.{words_of}
use Rattle.row_item.specs.Coded.{row_state}
use Rattle.row_unpacker.proofs.item.Laws.{entry-below, entry-above, entry-got}
use Rattle.row_unpacker.proofs.item.entry_found.Goals as goal

pub returns-then-height-lt4093 : goal.returns-then-height-lt4093
returns-then-height-lt4093 c = entry-below (words_of c.args.table.now) (row_state c.args.p) c.args.at c.args.i c.args.len c.low_limit.result
    c.previous_of.result c.low_limit.ensures c.previous_of.ensures c.if-height-lt4093.true

pub returns-then-height-gt8186 : goal.returns-then-height-gt8186
returns-then-height-gt8186 c = entry-above (words_of c.args.table.now) (row_state c.args.p) c.args.at c.args.i c.args.len c.low_limit.result
    c.previous_of.result c.low_limit.ensures c.previous_of.ensures c.if-height-lt4093.false c.if-height-gt8186.true

pub returns : goal.returns
returns c = entry-got (words_of c.args.table.now) (row_state c.args.p) c.args.at c.args.i c.args.len c.low_limit.result
    c.previous_of.result c.low_limit.ensures c.previous_of.ensures c.if-height-lt4093.false
    c.if-height-gt8186.false c.signed_difference.result c.signed_difference.ensures
