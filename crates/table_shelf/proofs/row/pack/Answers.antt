-- `table_shelf::row::pack` meets its contract. Assumes nothing.
use Rattle.std.proofs.Common.{sym, ap, ◌∙◌}
use Rattle.shelf_format.proofs.Calls.Laws.{refusal_some}
use Rattle.answer.specs.Outcome.{outcome}
use Rattle.table_shelf.proofs.row.Laws.{pack-refused, pack-done}
use Rattle.table_shelf.proofs.row.pack.Goals as goal

pub returns-in-Ok : goal.returns-in-Ok
returns-in-Ok c = let known = c.in-Ok.ensures in
    pack-done c.args.shelf.now c.args.party c.args.place (sym known.number) known.table c.args.pixels.now c.args.words.now c.pack.ensures

pub returns-in-Err : goal.returns-in-Err
returns-in-Err c = let known = c.in-Err.ensures in
    ap (λ a. outcome a c.args.words.now) c.into.ensures
    ∙ pack-refused c.args.shelf.now c.args.party c.args.place known.number (refusal_some c.in-Err.refusal) c.args.pixels.now c.args.words.now
