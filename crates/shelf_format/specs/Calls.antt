-- Document 02's ticket 6: what opening a shelf, putting and removing a table, and using one come to, as functions of all their
-- inputs, the shelf and the memory lent for writing included. s is the shelf, p the party and i the place that a call names, of any
-- value; tb, pb and wb are the bytes of a table, of pixels and of words, and m is the memory lent for a row. Every call but opening
-- looks at the shelf's length, and at what it holds through the party's view of it, v. Definitions only; their laws are in proofs/Calls/.
-- Assumes nothing.
use Rattle.std.specs.Prelude.{ℕ, ◌+◌, ◌≤◌, ◌<◌, ◌≡◌, Bool, true, false, not, List, [], ◌∷◌, ◌++◌, length, replicate, eqb, Result, Ok, Err}
use Rattle.answer.specs.declared.Answer.{Answer}
use Rattle.answer.specs.declared.refusal.Refusal.{Refusal}
use Rattle.answer.specs.Refusal.{refusal_number}
use Rattle.answer.specs.Outcome.{Outcome, outcome, refusal, refused, wrote, ◌or_else◌, refuse_if, unless, lent, room_number}
use Rattle.row_format.specs.declared.RowUnpacked.{RowUnpacked}
use Rattle.row_format.specs.Lists.{least}
use Rattle.row_format.specs.Table.{table_number}
use Rattle.row_format.specs.Calls.{packed, row_refused, unpacked, room}
use Rattle.shelf_format.specs.declared.PlaceChanged.{PlaceChanged}
use Rattle.shelf_format.specs.Shelf.{shelf_bytes, place, placed, filled, is_free, table_in, is_party, first_own, is_own, may_use, view, OnlyPlace}

-- "a later call on a shelf too short is refused 5 first"
abbrev pub short_number : List ℕ → ℕ
short_number s = room_number (lent (length s)) shelf_bytes

-- ---- opening: "Opening takes four tables, leaves the other places free and refuses 1, 2, 3, table by table, then 5"
unfoldable pub tables_number : List (List ℕ) → ℕ
tables_number [] = 0
tables_number (tb ∷ tbs) = table_number tb or_else tables_number tbs

-- places one after another, with a table each, or none
unfoldable pub shelved : List (List ℕ) → List ℕ
shelved [] = []
shelved (tb ∷ tbs) = filled tb ++ shelved tbs

unfoldable pub shelf_opened : List ℕ → List ℕ → List ℕ → List ℕ → List ℕ → Outcome Answer
shelf_opened t0 t1 t2 t3 s =
    let tables = t0 ∷ t1 ∷ t2 ∷ t3 ∷ [] in
    unless (tables_number tables or_else short_number s) (λ e. refused e s) (wrote shelf_bytes (shelved (tables ++ replicate 8 [])) s)

-- ---- a put and a removal answer the place that changed; refused, they answer the place 0 and leave the shelf as found
abbrev pub not_changed : ℕ → PlaceChanged
not_changed e = record { number = e; place = 0 }

-- what was given, as C has it: the place, or why not
abbrev pub as_place_changed : Result ℕ Refusal → PlaceChanged
as_place_changed (Ok i) = record { number = 0; place = i }
as_place_changed (Err e) = not_changed (refusal_number e)

abbrev pub changed : List ℕ → ℕ → List ℕ → Outcome PlaceChanged
changed s i b = outcome (record { number = 0; place = i }) (placed s i b)

-- "changes its one place and nothing else": the place i is answered, and b stands in it
pub record PlaceWritten (i : ℕ) (b s : List ℕ) (o : Outcome PlaceChanged) : Type 0 where
  pub answer : o.answer ≡ record { number = 0; place = i }
  pub only : OnlyPlace i s o.memory
  pub here : place o.memory i ≡ b

-- the lowest of a party's four that is free
pub record LowestFree (s : List ℕ) (p i : ℕ) : Type 0 where
  pub its : is_own p i ≡ true
  pub free : is_free (place s i) ≡ true
  pub lower : (j : ℕ) → is_own p j ≡ true → j < i → is_free (place s j) ≡ false

-- ---- putting: "A put takes the lowest free place of that party's four and answers it"
-- which of the four it is, 0 to 3, or 4 where all are taken
unfoldable pub first_free : (ℕ → List ℕ) → ℕ → ℕ
first_free v p = least (λ k. is_free (v (first_own p + k))) 4

abbrev pub put_place : (ℕ → List ℕ) → ℕ → ℕ
put_place v p = first_own p + first_free v p

-- "24 .. an unknown party", "then 1, 2, 3"
unfoldable pub offer_number : ℕ → List ℕ → ℕ
offer_number p tb = refuse_if (not (is_party p)) 24 or_else table_number tb

-- "then 22", "22 shelf full"
abbrev pub put_refusal : List ℕ → ℕ → List ℕ → ℕ
put_refusal s p tb = short_number s or_else offer_number p tb or_else refuse_if (eqb (first_free (view p s) p) 4) 22

unfoldable pub shelf_put : List ℕ → ℕ → List ℕ → Outcome PlaceChanged
shelf_put s p tb =
    unless (put_refusal s p tb) (λ e. outcome (not_changed e) s) (changed s (put_place (view p s) p) (filled tb))

-- ---- a place that a call names, by whether the party may: "23 no such table, 24 not this party's place, a common place to be removed,
-- or an unknown party or place; order 24, 23"
unfoldable pub held_number : Bool → List ℕ → ℕ
held_number may b = refuse_if (not may) 24 or_else refuse_if (is_free b) 23

-- ---- removing: "order 24, 23, then 1, 2, 3 (not in a removal)"
abbrev pub remove_refusal : List ℕ → ℕ → ℕ → ℕ
remove_refusal s p i = short_number s or_else held_number (is_own p i) (view p s i)

-- a removal that is not refused: nothing is asked of the table
pub record RemovablePlace (s : List ℕ) (p i : ℕ) : Type 0 where
  pub long : shelf_bytes ≤ length s
  pub its : is_own p i ≡ true
  pub taken : is_free (place s i) ≡ false

unfoldable pub shelf_removed : List ℕ → ℕ → ℕ → Outcome PlaceChanged
shelf_removed s p i =
    unless (remove_refusal s p i) (λ e. outcome (not_changed e) s) (changed s i (filled []))

-- ---- using: "order 24, 23, then 1, 2, 3 .., then the call's own". 1, 2 and 3 are the first numbers of packing, of unpacking and of
-- the room question, which answer with the table of the place
abbrev pub use_refusal : List ℕ → ℕ → ℕ → ℕ
use_refusal s p i = short_number s or_else held_number (may_use p i) (view p s i)

-- a use that is not refused by the shelf's 5, by 24 or by 23
pub record UsablePlace (s : List ℕ) (p i : ℕ) : Type 0 where
  pub long : shelf_bytes ≤ length s
  pub allowed : may_use p i ≡ true
  pub taken : is_free (place s i) ≡ false

-- and the table that it uses
pub record TableAt (s : List ℕ) (p i : ℕ) (tb : List ℕ) : Type 0 where
  pub usable : UsablePlace s p i
  pub table : table_in (place s i) ≡ tb

unfoldable pub shelf_packed : List ℕ → ℕ → ℕ → List ℕ → List ℕ → Outcome Answer
shelf_packed s p i pb m =
    unless (use_refusal s p i) (λ e. refused e m) (packed (table_in (view p s i)) pb m)

unfoldable pub shelf_unpacked : List ℕ → ℕ → ℕ → List ℕ → ℕ → List ℕ → Outcome RowUnpacked
shelf_unpacked s p i wb n m =
    unless (use_refusal s p i) (λ e. row_refused 0 e m) (unpacked (table_in (view p s i)) wb n m)

unfoldable pub shelf_room : List ℕ → ℕ → ℕ → ℕ → Answer
shelf_room s p i n = unless (use_refusal s p i) refusal (room (table_in (view p s i)) n)

-- a use that is refused before its table is looked at, whichever it is
pub record UseRefused (s : List ℕ) (p i e : ℕ) : Type 0 where
  pub pack : (pb m : List ℕ) → shelf_packed s p i pb m ≡ refused e m
  pub unpack : (wb : List ℕ) (n : ℕ) (m : List ℕ) → shelf_unpacked s p i wb n m ≡ row_refused 0 e m
  pub room : (n : ℕ) → shelf_room s p i n ≡ refusal e

-- uses that are the row's own calls with the table tb
pub record UsesTable (s : List ℕ) (p i : ℕ) (tb : List ℕ) : Type 0 where
  pub pack : (pb m : List ℕ) → shelf_packed s p i pb m ≡ packed tb pb m
  pub unpack : (wb : List ℕ) (n : ℕ) (m : List ℕ) → shelf_unpacked s p i wb n m ≡ unpacked tb wb n m
  pub room : (n : ℕ) → shelf_room s p i n ≡ room tb n
