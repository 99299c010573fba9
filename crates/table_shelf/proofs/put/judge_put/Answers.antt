-- `table_shelf::put::judge_put` meets its contract. Assumes nothing.
use Rattle.std.proofs.Common.{◌∙◌}
use Rattle.table_shelf.proofs.put.Laws.{before-table, before-party}
use Rattle.table_shelf.proofs.put.judge_put.Goals as goal

pub returns-then-party-lt2 : goal.returns-then-party-lt2
returns-then-party-lt2 c = c.judge_table.ensures
    ∙ before-table c.args.shelf.now c.args.party c.args.table.now c.if-shelf-lt-SHELF_BYTES.false c.if-party-lt2.true

pub returns : goal.returns
returns c = before-party c.args.shelf.now c.args.party c.args.table.now c.if-shelf-lt-SHELF_BYTES.false c.if-party-lt2.false
