-- Items read one at a time, and what they have to do with the whole-row call. Assumes nothing.
use Rattle.std.specs.Prelude.{ℕ, zero, suc, ◌<◌, ◌≡◌, cond, List, [], ◌∷◌, eqb}
use Rattle.row_format.specs.Row.{pixel_bytes}
use Rattle.row_format.specs.Calls.{row_wrote, unpacked}
use Rattle.row_reader.specs.declared.step.Place.{Place}
use Rattle.row_reader.specs.Step.{ItemRead, start_place, refused_at, item_read}
pub mod Laws
pub mod Ends
pub mod Rows

-- a run of steps: the pixels given and the place after them; or the number of the refusal, how many items came before, and the
-- place that it gave back
pub data Walk : Type 0 where
  gave : List ℕ → Place → Walk
  ended : ℕ → ℕ → Place → Walk

abbrev pub onto : ℕ → Walk → Walk
onto p (gave ps pl) = gave (p ∷ ps) pl
onto p (ended e k pl) = ended e (suc k) pl

-- n steps from a place, each from where the one before left the reader
unfoldable pub walk : List ℕ → List ℕ → ℕ → Place → Walk
walk tb wb zero pl = gave [] pl
walk tb wb (suc n) pl =
    let r : ItemRead = item_read tb wb pl in
    let w : Walk = onto r.pixel (walk tb wb n r.place) in
    cond (eqb r.number 0) w (ended r.number 0 r.place)

-- n steps of a reader from its start give what a row call of n pixels into the memory m gives: those pixels, and as many bits
pub record Handed (tb wb : List ℕ) (n : ℕ) (m : List ℕ) : Type 0 where
  pub pixels : List ℕ
  pub place : Place
  pub walked : walk tb wb n (start_place tb) ≡ gave pixels place
  pub row : unpacked tb wb n m ≡ row_wrote place.at (pixel_bytes pixels) m

-- within n steps of a reader from its start one is refused by e at the bit place at: the items before it, fewer than n, are
-- given, and where the reader then stands the next is refused
pub record RefusedWithin (tb wb : List ℕ) (n e at : ℕ) : Type 0 where
  pub items : ℕ
  pub fewer : items < n
  pub pixels : List ℕ
  pub place : Place
  pub walked : walk tb wb items (start_place tb) ≡ gave pixels place
  pub refused : item_read tb wb place ≡ refused_at e place
  pub there : place.at ≡ at
