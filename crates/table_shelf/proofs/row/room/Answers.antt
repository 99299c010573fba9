-- `table_shelf::row::room` meets its contract. Assumes nothing.
use Rattle.std.proofs.Common.{sym, ◌∙◌}
use Rattle.shelf_format.proofs.Calls.Laws.{refusal_some}
use Rattle.table_shelf.proofs.row.Laws.{room-refused, room-done}
use Rattle.table_shelf.proofs.row.room.Goals as goal

pub returns-in-Ok : goal.returns-in-Ok
returns-in-Ok c = let known = c.in-Ok.ensures in
    room-done c.args.shelf.now c.args.party c.args.place (sym known.number) known.table c.args.n c.room.ensures

pub returns-in-Err : goal.returns-in-Err
returns-in-Err c = let known = c.in-Err.ensures in
    c.into.ensures ∙ room-refused c.args.shelf.now c.args.party c.args.place known.number (refusal_some c.in-Err.refusal) c.args.n
