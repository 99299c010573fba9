-- `table_shelf::remove::judge_remove` meets its contract. Assumes nothing.
use Rattle.std.proofs.Common.{sym, ap, ◌∙◌}
use Rattle.answer.specs.Outcome.{◌or_else◌}
use Rattle.shelf_format.specs.Shelf.{place}
use Rattle.shelf_format.specs.Calls.{short_number, held_number}
use Rattle.shelf_format.proofs.Calls.Laws.{own-few, remove-seen}
use Rattle.table_shelf.proofs.remove.judge_remove.Goals as goal

pub judge_held-requires : goal.judge_held-requires
judge_held-requires c = λ may. own-few c.args.party c.args.place (sym c.is_own.ensures ∙ may)

pub returns : goal.returns
returns c = c.judge_held.ensures
    ∙ ap (λ may. short_number c.args.shelf.now or_else held_number may (place c.args.shelf.now c.args.place)) c.is_own.ensures
    ∙ remove-seen c.args.shelf.now c.args.party c.args.place
