-- `table_shelf::remove::remove_own` meets its contract. Assumes nothing.
use Rattle.std.proofs.Common.{sym}
use Rattle.std.proofs.lemmas.Result.{err_from_is_err_and}
use Rattle.shelf_format.proofs.Calls.Laws.{refusal_some}
use Rattle.table_shelf.proofs.remove.Laws.{remove-refused, inside, remove-done}
use Rattle.table_shelf.proofs.remove.remove_own.Goals as goal

pub returns-in_err-judge_remove : goal.returns-in_err-judge_remove
returns-in_err-judge_remove c =
    let e = err_from_is_err_and c.from_residual.result c.from_residual.ensures.1 in
    rw (e.1, e.2)
    (remove-refused c.args.shelf.now c.args.party c.args.place (c.in_err-judge_remove.ensures) (refusal_some c.in_err-judge_remove.field-0.0))

pub fill_place-requires-clause-place_in_bounds : goal.fill_place-requires-clause-place_in_bounds
fill_place-requires-clause-place_in_bounds c = inside c.args.shelf.now c.args.party c.args.place (sym (c.in_ok-judge_remove.ensures))

pub returns : goal.returns
returns c = remove-done c.args.shelf.now c.args.party c.args.place (sym (c.in_ok-judge_remove.ensures)) c.fill_place.ensures
