-- `row_reader::step::Place::start` meets its contract: the check's number, at a row's start. Assumes nothing.
use Prim.Native.Nat.{ℕ}
use mathlib.Core.Path.{ap}
use Rattle.row_reader.specs.declared.step.Place.{Place}
use Rattle.row_format.specs.Row.{fresh}
use Rattle.row_item.specs.Coded.{progress}
use Rattle.row_format.proofs.Calls.Laws.{answer-number}
use Rattle.row_reader.proofs.step.Place.start.Goals as goal

pub returns : goal.returns
returns c = let number = answer-number c.args.table.now c.check-number.ensures in
    rw c.start.ensures (ap placed number)
  where
    placed : ℕ → Place
    placed k = record { at = 0; count = 0; progress = progress fresh; opening = k }
