-- `tahliruz::tahliruz_open` meets its contract: the place of the start, as C has it, beside its opening. Assumes nothing.
use native.Mathlib.Omega.{arith}
use mathlib.Core.Path.{ap}
use borrow.Author.Rules.{rules}
use Rattle.row_reader.specs.declared.step.Place.{Place}
use Rattle.tahliruz.specs.Items.{flat_place, reader_opened}
use Rattle.tahliruz.specs.declared.item.ReaderOpened.{ReaderOpened}
use Rattle.tahliruz.proofs.tahliruz_open.Goals as goal

abbrev opened : Place → ReaderOpened
opened p = record { number = p.opening; place = flat_place p }

pub flat_place-requires : goal.flat_place-requires
flat_place-requires c = rw c.start-start.ensures (omega arith)

pub returns : goal.returns
unfolding reader_opened
returns c = rw c.flat_place.ensures (ap opened c.start-start.ensures)
