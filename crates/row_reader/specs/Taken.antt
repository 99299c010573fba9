-- Two items taken by a reader that is held between them. Assumes nothing.
use Rattle.std.specs.Prelude.{List, ℕ}
use Rattle.row_reader.specs.declared.step.Place.{Place}
use Rattle.row_reader.specs.declared.reader.Taken.{Taken}
use Rattle.row_reader.specs.Step.{ItemRead, start_place, as_read, item_read}

pub record TwoRead : Type 0 where
  pub first : ItemRead
  pub second : ItemRead

-- the second from the place after the first
abbrev pub taken_from : List ℕ → List ℕ → Place → TwoRead
taken_from tb wb pl = record { first = item_read tb wb pl; second = item_read tb wb (item_read tb wb pl).place }

-- what the code answers, from the start of a reader of these table bytes
abbrev pub taken_read : List ℕ → Taken → TwoRead
taken_read tb x =
    let first : ItemRead = as_read (start_place tb) x.first in
    record { first = first; second = as_read first.place x.second }
