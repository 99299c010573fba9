-- The place that a refusal shows, from the reading that stopped: an item's refusal shows it as it stands, and one that was given
-- before the first item shows none. Assumes nothing.
use Rattle.std.specs.Prelude.{ℕ, zero, suc, ◌*◌, ◌≤◌, ◌≡◌, refl, true, false, List, drop}
use Rattle.std.proofs.Common.{arith, sym, ap, ◌∙◌, subst}
use Rattle.answer.specs.Outcome.{Lent, nothing, room_number}
use Rattle.answer.specs.Outcome.Laws.{room_number-in}
use Rattle.row_format.specs.Place.{has_place, place_shown}
use Rattle.row_format.specs.Place.Laws.{has_place-true, place_shown-none, place_shown-same}
use Rattle.row_format.specs.Row.{Item, State, fresh, after}
use Rattle.row_format.specs.Reading.{Reading, item, fault, read_item, Run, done, stop, run_number, run_place, prepend, follow, read_by, read_items, first_number, row_reading}
use Rattle.row_format.proofs.Reading.Laws.{readable, row_reading-room}
use Rattle.row_format.proofs.Theorems.Numbers.{StopIn, read_items-in, first_number-in}

-- ---- a reading that stops at an item does so by 6 to 9, which show the place
module _ (t : List ℕ) (n : ℕ) (r : List ℕ) (e at u : ℕ) (stopped : read_items t n r ≡ stop e at u) where
  pub read_items-least : 6 ≤ e
  read_items-least =
      let each = read_items-in (λ k. 6 ≤ k) (omega arith) (omega arith) (omega arith) (omega arith) t n r in
      subst (StopIn (λ k. 6 ≤ k)) stopped each

  pub read_items-most : e ≤ 9
  read_items-most =
      let each = read_items-in (λ k. k ≤ 9) (omega arith) (omega arith) (omega arith) (omega arith) t n r in
      subst (StopIn (λ k. k ≤ 9)) stopped each

  pub read_items-shown : place_shown e at ≡ at
  read_items-shown = place_shown-same e at (has_place-true e read_items-least (omega (arith, read_items-most)))

-- ---- and its place is within the bits that it uses
abbrev PlaceWithin : Run → Type 0
PlaceWithin (done is u) = Unit {0}
PlaceWithin (stop e at u) = at ≤ u

prepend-place : (i : Item) (u : ℕ) (x : Run) → PlaceWithin x → PlaceWithin (prepend i u x)
prepend-place i u (done is v) h = tt
prepend-place i u (stop e at v) h = omega arith

follow-place : (x : Reading) (f : Item → ℕ → Run) → ((i : Item) (u : ℕ) → PlaceWithin (f i u)) → PlaceWithin (follow x f)
follow-place (item i u) f rest = prepend-place i u (f i u) (rest i u)
follow-place (fault e u) f rest = omega arith

read_by-place : (f : State → List ℕ → Reading) (s : State) (n : ℕ) (r : List ℕ) → PlaceWithin (read_by f s n r)
unfolding read_by
read_by-place f s zero r = tt
read_by-place f s (suc n) r = follow-place (f s r) _ (λ i u. read_by-place f (after s i) n (drop u r))

pub read_items-place : (t : List ℕ) (n : ℕ) (r : List ℕ) (e at u : ℕ) → read_items t n r ≡ stop e at u → at ≤ u
unfolding read_items
read_items-place t n r e at u h = subst PlaceWithin h (read_by-place (read_item t) fresh n r)

-- ---- what is asked before the first item refuses by numbers that show no place
pub first_number-none : (m : Lent) (tb : List ℕ) (n : ℕ) → has_place (first_number m tb n) ≡ false
first_number-none m tb n = first_number-in None m tb n refl refl refl refl refl (room_number-in None m (2 * n) refl refl)
  where
    None : ℕ → Type 0
    None e = has_place e ≡ false

pub first_number-shown : (m : Lent) (tb : List ℕ) (n p : ℕ) → place_shown (first_number m tb n) p ≡ 0
first_number-shown m tb n p = place_shown-none (first_number m tb n) p (first_number-none m tb n)

-- so that a row's place is that of any reading with room enough: one that is refused earlier shows none
module _ (m m' : Lent) (tb : List ℕ) (n : ℕ) (wb : List ℕ) (enough : room_number m' (2 * n) ≡ 0) where
  refused-first : (k : ℕ) → first_number m tb n ≡ suc k → row_reading m tb n wb ≡ stop (first_number m tb n) 0 0
  unfolding row_reading
  refused-first k first = rw first

  none_before : first_number m tb n ≡ 0 → row_reading m tb n wb ≡ row_reading m' tb n wb
  none_before first =
      row_reading-room m tb n wb (readable m tb n first).room ∙ sym (row_reading-room m' tb n wb enough)

  pub row_reading-shown :
      let number = run_number (row_reading m tb n wb) in
      place_shown number (run_place (row_reading m tb n wb)) ≡ place_shown number (run_place (row_reading m' tb n wb))
  row_reading-shown = by_first (first_number m tb n) refl
    where
      shown : ℕ → ℕ
      shown p = place_shown (run_number (row_reading m tb n wb)) p

      by_first : (k : ℕ) → first_number m tb n ≡ k
          → shown (run_place (row_reading m tb n wb)) ≡ shown (run_place (row_reading m' tb n wb))
      by_first zero first = ap (λ (x : Run). shown (run_place x)) (none_before first)
      by_first (suc k) first =
          let none : (p : ℕ) → shown p ≡ 0 = λ p. rw (refused-first k first) (first_number-shown m tb n p) in
          none (run_place (row_reading m tb n wb)) ∙ sym (none (run_place (row_reading m' tb n wb)))

-- a reading that shows a place was not refused before its first item, so that the room lent for it has no part in it
pub row_reading-placed : (l : Lent) (tb : List ℕ) (n : ℕ) (wb : List ℕ) → has_place (run_number (row_reading l tb n wb)) ≡ true
    → row_reading l tb n wb ≡ row_reading nothing tb n wb
row_reading-placed l tb n wb shows = by_first (first_number l tb n) refl
  where
    by_first : (k : ℕ) → first_number l tb n ≡ k → row_reading l tb n wb ≡ row_reading nothing tb n wb
    by_first zero first = row_reading-room l tb n wb (readable l tb n first).room
    by_first (suc k) first =
        let number : run_number (row_reading l tb n wb) ≡ first_number l tb n = unfold row_reading in (rw first) in
        let one : place_shown (first_number l tb n) 1 ≡ 1 = rw (sym (ap has_place number) ∙ shows) in
        absurd (omega (arith, one, first_number-shown l tb n 1))
