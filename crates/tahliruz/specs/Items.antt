-- The item reader as C has it: its place and its answers in numbers, and what its two calls answer. Assumes nothing.
use Rattle.std.specs.Prelude.{ℕ, Bool, true, false, not, List, ltb, eqb, ℤ, pos, Result, Ok, Err}
use Rattle.answer.specs.declared.refusal.Refusal.{Refusal}
use Rattle.answer.specs.Outcome.{◌or_else◌, refuse_if, unless}
use Rattle.answer.specs.Refusal.{refusal_number}
use Rattle.row_format.specs.Table.{table_number}
use Rattle.row_item.specs.declared.Item.{Item}
use Rattle.row_item.specs.declared.Item.TheVariants.{Difference, BadPixel, BadBias, Escape}
use Rattle.row_reader.specs.declared.step.Place.{Place}
use Rattle.row_reader.specs.Step.{ItemRead, start_place, item_read}
use Rattle.tahliruz.specs.declared.item.ReaderPlace.{ReaderPlace}
use Rattle.tahliruz.specs.declared.item.ReaderOpened.{ReaderOpened}
use Rattle.tahliruz.specs.declared.item.ItemAnswer.{ItemAnswer}
pub mod Laws

-- ---- a place
-- of a reader under an accepted table
abbrev pub place_of : ReaderPlace → Place
place_of p =
    record { at = p.at; count = p.count; progress = record { begun = not (eqb p.begun 0); previous = p.previous }; opening = 0 }

abbrev pub bit_of : Bool → ℕ
bit_of true = 1
bit_of false = 0

abbrev pub flat_place : Place → ReaderPlace
flat_place p = record { at = p.at; count = p.count; previous = p.progress.previous; begun = bit_of p.progress.begun }

-- ---- opening: the table's number, and the place of a row's first item, which is all zeros
unfoldable pub reader_opened : List ℕ → ReaderOpened
reader_opened tb = record { number = table_number tb; place = flat_place (start_place tb) }

-- ---- an item
abbrev pub item_kind : Item → ℕ
item_kind (Difference d) = 1
item_kind BadPixel = 2
item_kind BadBias = 3
item_kind (Escape h) = 4

abbrev pub item_step : Item → ℤ
item_step (Difference d) = d
item_step BadPixel = pos 0
item_step BadBias = pos 0
item_step (Escape h) = pos 0

-- a refusal has 0 for every value, and the place p as it was given
abbrev pub refused_item : ReaderPlace → ℕ → ItemAnswer
refused_item p e = record { number = e; kind = 0; step = pos 0; pixel = 0; place = p }

-- what the code gives, beside the place p
abbrev pub as_item : ReaderPlace → Result ItemAnswer Refusal → ItemAnswer
as_item p (Ok given) = given
as_item p (Err e) = refused_item p (refusal_number e)

abbrev pub given_item : ItemRead → ItemAnswer
given_item r =
    record { number = 0; kind = item_kind r.item; step = item_step r.item; pixel = r.pixel; place = flat_place r.place }

-- the table, as at every call; then 11 for a begun that no reading has: it is 0 or 1
abbrev pub item_first_number : List ℕ → ReaderPlace → ℕ
item_first_number tb p = table_number tb or_else refuse_if (ltb 1 p.begun) 11

-- the item at a place, "1, 2, 3" first; then what a reader under this table gives at that place
unfoldable pub next_item : List ℕ → List ℕ → ReaderPlace → ItemAnswer
next_item tb wb p =
    let r : ItemRead = item_read tb wb (place_of p) in
    unless (item_first_number tb p or_else r.number) (refused_item p) (given_item r)
