-- `table_shelf::fill::fill` meets its contract. Assumes nothing.
use Rattle.table_shelf.proofs.fill.Laws.{filled_is}
use Rattle.table_shelf.proofs.fill.fill.Goals as goal

pub returns : goal.returns
returns c = filled_is c.args.table.now c.args.to.now c.copy.new.to c.fill.new.self c.requires.to_len c.copy.auto.to c.copy.ensures
    (c.fill.ensures.after (λ y e. e))
