-- What holds of the two calls that read items for C; what the reader itself is held to stands in row_reader's theorems.
-- Assumes nothing.
use Rattle.std.specs.Prelude.{ℕ, ◌<◌, ◌≡◌, refl, true, ◌⊎◌, List, [], ◌∷◌, eqb}
use Rattle.answer.specs.Outcome.{unless}
use Rattle.row_format.specs.Lists.{any}
use Rattle.row_format.specs.Table.{table_number}
use Rattle.row_reader.specs.declared.step.Place.{Place}
use Rattle.row_reader.specs.Step.{impossible, item_read}
use Rattle.row_reader.specs.Theorems.{opening-numbers}
use Rattle.tahliruz.specs.declared.item.ReaderPlace.{ReaderPlace}
use Rattle.tahliruz.specs.Items.{place_of, flat_place, reader_opened, refused_item, given_item, next_item}
use Rattle.tahliruz.specs.Items.Laws.{next_item-in, next_item-table, next_item-impossible, next_item-kept, next_item-step}

-- "each call .. answers with a number from document 01"
pub opened-numbers : (tb : List ℕ) → any (eqb (reader_opened tb).number) (0 ∷ 1 ∷ 2 ∷ 3 ∷ []) ≡ true
unfolding reader_opened
opened-numbers tb = opening-numbers tb

pub next-numbers : (tb wb : List ℕ) (p : ReaderPlace)
    → any (eqb (next_item tb wb p).number) (0 ∷ 1 ∷ 2 ∷ 3 ∷ 11 ∷ 6 ∷ 7 ∷ 8 ∷ 9 ∷ []) ≡ true
unfolding any
next-numbers tb wb p =
    next_item-in (λ e. any (eqb e) (0 ∷ 1 ∷ 2 ∷ 3 ∷ 11 ∷ 6 ∷ 7 ∷ 8 ∷ 9 ∷ []) ≡ true) refl refl refl refl refl tb wb p
    refl refl refl refl

-- "A refused call gives its number, zero for every count and value": opening's place is all zeros, refused or not
pub opened-zeros : (tb : List ℕ)
    → reader_opened tb ≡ record { number = table_number tb; place = record { at = 0; count = 0; previous = 0; begun = 0 } }
unfolding reader_opened
opened-zeros tb = refl

-- a table that opening refuses gets the same number here, whatever the words and the place
pub next-table : (tb wb : List ℕ) (p : ReaderPlace) → (table_number tb ≡ 0 → ⊥) → next_item tb wb p ≡ refused_item p (table_number tb)
next-table = next_item-table

-- under an accepted table a place that no reading has is answered 11
pub next-impossible : (tb wb : List ℕ) (p : ReaderPlace) → table_number tb ≡ 0
    → (1 < p.begun) ⊎ (impossible (place_of p) ≡ true) → next_item tb wb p ≡ refused_item p 11
next-impossible = next_item-impossible

-- "A refusal moves nothing": its place is the one that was given, and for 6 to 9 its at is where the refused item begins
pub next-refused-keeps : (tb wb : List ℕ) (p : ReaderPlace) → ((next_item tb wb p).number ≡ 0 → ⊥)
    → next_item tb wb p ≡ refused_item p (next_item tb wb p).number
next-refused-keeps = next_item-kept

-- from a reader's place, and under an accepted table, C is given that reader's step
pub next-steps : (tb wb : List ℕ) (pl : Place) → table_number tb ≡ 0 → pl.opening ≡ 0
    → next_item tb wb (flat_place pl) ≡ unless (item_read tb wb pl).number (refused_item (flat_place pl)) (given_item (item_read tb wb pl))
next-steps = next_item-step
