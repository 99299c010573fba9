use native.Mathlib.Omega.{arith}
use borrow.Author.Rules.{rules}
use mathlib.Core.Path.{refl, ◌∙◌}
use lib.ListN.{length}
use Rattle.bitstream.specs.Bits.{words_of, stream}
use Rattle.row_format.specs.Reading.{read_item, read_items}
use Rattle.row_unpacker.proofs.item.Laws.{item_at-answered}
use Rattle.row_unpacker.proofs.row.Laws.{read_item-most, partly_none, partly_more, partly-stop, partly-all}
use Rattle.row_unpacker.proofs.row.read_items.Goals as goal

pub loop-i-init : goal.loop-i-init
loop-i-init c = partly_none (read_item (words_of c.args.table.now)) (read_item-most (words_of c.args.table.now)) c.args.n
    (stream c.args.words.now) (length c.args.row.now) c.requires.n_in_bounds c.args.row.now c.start-p.result refl
    c.start-p.ensures

pub hinted_item-requires : goal.hinted_item-requires
hinted_item-requires c = record { table_value = c.requires.table_value; at_bound = omega (arith, c.loop-i.invariant.place, c.loop-i.invariant.within, c.requires.n_bound) }

pub put_u16-requires : goal.put_u16-requires
put_u16-requires c = omega (arith, c.loop-i.invariant.kept)

pub loop-i-preserved : goal.loop-i-preserved
loop-i-preserved c = partly_more (read_item (words_of c.args.table.now)) (read_item-most (words_of c.args.table.now)) c.args.n
    (stream c.args.words.now) (length c.args.row.now) c.requires.n_in_bounds c.loop-i.row c.loop-i.at c.loop-i.p
    c.loop-i.i c.loop-i.invariant c.loop-i-test.true c.hinted_item.result
    (c.hinted_item.ensures ∙ item_at-answered c.args.table.now c.args.words.now c.loop-i.at c.loop-i.p)
    c.in_ok-got.got c.after-p.result
    c.put_u16.new.s c.in_ok-got.was c.after-p.ensures c.put_u16.ensures

pub shape_of-row-in_err-got : goal.shape_of-row-in_err-got
shape_of-row-in_err-got c = c.loop-i.invariant.kept

pub returns-in_err-got : goal.returns-in_err-got
unfolding read_items
returns-in_err-got c = partly-stop (read_item (words_of c.args.table.now)) (read_item-most (words_of c.args.table.now)) c.args.n
    (stream c.args.words.now) (length c.args.row.now) c.requires.n_in_bounds c.loop-i.row c.loop-i.at c.loop-i.p
    c.loop-i.i c.loop-i.invariant c.loop-i-test.true c.hinted_item.result
    (c.hinted_item.ensures ∙ item_at-answered c.args.table.now c.args.words.now c.loop-i.at c.loop-i.p)
    c.loop-i.row c.in_err-got.was (search rules)

pub shape_of-row : goal.shape_of-row
shape_of-row c = c.loop-i.invariant.kept

pub returns : goal.returns
unfolding read_items
returns c = partly-all (read_item (words_of c.args.table.now)) (read_item-most (words_of c.args.table.now)) c.args.n
    (stream c.args.words.now) (length c.args.row.now) c.requires.n_in_bounds c.loop-i.row c.loop-i.at c.loop-i.p
    c.loop-i.i c.loop-i.invariant c.loop-i-test.false
