-- `item::item_seen`: the item of what was found; where nothing was, 6 or 7. Assumes nothing.
use Rattle.row_unpacker.proofs.item.Laws.{found_within, read_found, read_short, read-unknown}
use Rattle.row_unpacker.proofs.item.item_seen.Goals as goal

pub item_found-requires : goal.item_found-requires
item_found-requires c = let within = found_within c.args.table.now c.args.words.now c.args.at c.args.p c.args.v c.requires.seen c.args.hit in
    record { at_bound = c.requires.at_bound; j_in_bounds = within c.requires.finds c.in-Some.j c.in-Some.is }

pub returns-in-Some : goal.returns-in-Some
returns-in-Some c = read_found c.args.table.now c.args.words.now c.args.at c.args.p c.args.v c.requires.seen c.args.hit
    c.requires.finds c.in-Some.j c.in-Some.is _ c.item_found.ensures

pub returns-then-cut_short : goal.returns-then-cut_short
returns-then-cut_short c = read_short c.args.table.now c.args.words.now c.args.at c.args.p c.args.v c.requires.seen c.args.hit
    c.requires.finds c.in-None.is c.cut_short.result c.cut_short.ensures
    c.if-cut_short.true

pub returns-else-cut_short : goal.returns-else-cut_short
returns-else-cut_short c = read-unknown c.args.table.now c.args.words.now c.args.at c.args.p c.args.v c.requires.seen c.args.hit
    c.requires.finds c.in-None.is c.cut_short.result c.cut_short.ensures
    c.if-cut_short.false
