-- `table_shelf::row::unpack` meets its contract. Assumes nothing.
use Rattle.std.proofs.Common.{sym, ◌∙◌}
use Rattle.shelf_format.proofs.Calls.Laws.{refusal_some}
use Rattle.table_shelf.proofs.row.Laws.{unpack-refused, unpack-done}
use Rattle.table_shelf.proofs.row.unpack.Goals as goal

pub returns-in-Ok : goal.returns-in-Ok
returns-in-Ok c = let known = c.in-Ok.ensures in
    unpack-done c.args.shelf.now c.args.party c.args.place (sym known.number) known.table c.args.words.now c.args.n c.args.pixels.now c.unpack.ensures

pub returns-in-Err : goal.returns-in-Err
returns-in-Err c = let known = c.in-Err.ensures in
    unpack-refused c.args.shelf.now c.args.party c.args.place (c.number.ensures ∙ known.number)
    (λ none. refusal_some c.in-Err.refusal (sym c.number.ensures ∙ none)) c.args.words.now c.args.n c.args.pixels.now
