-- `table_shelf::row::judge_use` meets its contract. Assumes nothing.
use Rattle.std.proofs.Common.{sym, ap, ◌∙◌}
use Rattle.answer.specs.Outcome.{◌or_else◌}
use Rattle.shelf_format.specs.Shelf.{place}
use Rattle.shelf_format.specs.Calls.{short_number, held_number}
use Rattle.shelf_format.proofs.Calls.Laws.{use-few, use-seen}
use Rattle.table_shelf.proofs.row.judge_use.Goals as goal

pub judge_held-requires : goal.judge_held-requires
judge_held-requires c = λ may. use-few c.args.party c.args.place (sym c.may_use.ensures ∙ may)

pub returns : goal.returns
returns c = c.judge_held.ensures
    ∙ ap (λ may. short_number c.args.shelf.now or_else held_number may (place c.args.shelf.now c.args.place)) c.may_use.ensures
    ∙ use-seen c.args.shelf.now c.args.party c.args.place
