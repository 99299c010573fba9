-- `table_shelf::place::judge_held` meets its contract. Assumes nothing.
use Rattle.std.proofs.Common.{sym}
use Rattle.table_shelf.proofs.place.Laws.{held-allowed, held-refused}
use Rattle.shelf_format.specs.Shelf.{place}
use Rattle.table_shelf.proofs.place.judge_held.Goals as goal

pub returns-then-not-may : goal.returns-then-not-may
returns-then-not-may c = held-refused c.args.shelf.now (place c.args.shelf.now c.args.place) c.if-shelf-lt-SHELF_BYTES.false c.args.may c.if-not-may.true

pub returns-then-is_free : goal.returns-then-is_free
returns-then-is_free c = held-allowed c.args.shelf.now (place c.args.shelf.now c.args.place) c.if-shelf-lt-SHELF_BYTES.false c.args.may c.if-not-may.false (sym (c.if-is_free.ensures))

pub returns : goal.returns
returns c = held-allowed c.args.shelf.now (place c.args.shelf.now c.args.place) c.if-shelf-lt-SHELF_BYTES.false c.args.may c.if-not-may.false (sym (c.if-is_free.ensures))
