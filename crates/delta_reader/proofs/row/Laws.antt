-- The call, from the walk's two goes. Assumes nothing.
use Prim.Native.Nat.{ℕ, zero, suc, ◌/◌, ◌≤◌, ◌<◌}
use native.Mathlib.Nat.{zero-add}
use native.Mathlib.Omega.{arith}
use mathlib.Core.Path.{◌≡◌, refl, sym, ap, ◌∙◌, subst}
use mathlib.Core.Bool.{Bool, true, false}
use mathlib.Core.List.{List, ◌++◌, map}
use lib.ListN.{length, drop, length-map}
use lib.Dec.{eqb, ltb}
use lib.IntN.{ℤ}
use borrow.Author.Tests.{eqb-true, eqb-false, lt-ltb, le-ltb}
use Rattle.answer.specs.declared.refusal.Refusal.{Refusal}
use Rattle.answer.specs.Refusal.{refusal_number}
use Rattle.answer.specs.Refusal.Laws.{refusal_not_done}
use Rattle.answer.specs.Outcome.{◌or_else◌, refuse_if, lent, room_number, unless}
use Rattle.answer.specs.Outcome.Laws.{less_number-zero, or_else-zero-left, or_else-zero-right}
use Rattle.row_format.specs.Lists.Laws.{by-test}
use Rattle.delta_format.specs.declared.RowPlaces.{RowPlaces}
use Rattle.delta_format.specs.Row.{Element, RowReading, stops, reads}
use Rattle.delta_format.specs.Calls.{
  Arrays,
  delta_row_at,
  mark_of,
  values_bytes,
  delta_outcome,
  delta_refused,
  delta_left,
  width_number,
  row_number,
  delta_row,
}
use Rattle.delta_reader.specs.Puts.{RoomFor, PutsElements, Unchanged, AsLong}
use Rattle.delta_reader.specs.Walk.{WholeRow, WalkedAll, Walked}

-- a refusal's number is no 0
pub refusal_some : (e : Refusal) → refusal_number e ≡ 0 → ⊥
refusal_some e none = omega (arith, refusal_not_done e, none)

-- ---- what is judged first
pub first-is : {e : ℕ} (n : ℕ) (a : Arrays) (x y : List ℕ)
    → e ≡ width_number a.data_bits or_else width_number a.value_bits or_else room_number (lent (length x / 4)) n
    or_else room_number (lent (length y)) n
    → e ≡ row_number n a x y
unfolding row_number
first-is n a x y h = h

module _ (n : ℕ) (a : Arrays) (x y : List ℕ) (z : row_number n a x y ≡ 0) where
  abbrev room : ℕ
  room = room_number (lent (length x / 4)) n or_else room_number (lent (length y)) n

  abbrev rest : ℕ
  rest = width_number a.value_bits or_else room

  rest-width : width_number a.value_bits or_else room_number (lent (length x / 4)) n or_else room_number (lent (length y)) n ≡ 0
  unfolding row_number
  rest-width = or_else-zero-right (width_number a.data_bits) rest z

  rooms : room_number (lent (length x / 4)) n or_else room_number (lent (length y)) n ≡ 0
  rooms = or_else-zero-right (width_number a.value_bits) room rest-width

  pub row_room : RoomFor x y 0 n
  row_room =
      let values : n ≤ length x / 4 = less_number-zero (length x / 4) n 4 (or_else-zero-left (room_number (lent (length x / 4)) n)
      (room_number (lent (length y)) n) rooms) in
      let marks : n ≤ length y = less_number-zero (length y) n 4 (or_else-zero-right (room_number (lent (length x / 4)) n)
      (room_number (lent (length y)) n) rooms) in
      record { row = omega arith; marks = omega arith }

pub room-again : {x y x' y' : List ℕ} {n : ℕ} → RoomFor x y 0 n → AsLong x y x' y' → RoomFor x' y' 0 n
room-again room long = record { row = omega (arith, room.row, long.row); marks = omega (arith, room.marks, long.marks) }

pub room-values : (m n d : ℕ) → m < n → 5 ≡ refuse_if (ltb m n) 5 or_else d
room-values m n d h = rw (lt-ltb m n h) refl

pub room-marks : (m k n : ℕ) → n ≤ m → k < n → 5 ≡ refuse_if (ltb m n) 5 or_else refuse_if (ltb k n) 5
room-marks m k n h g = rw (le-ltb m n h, lt-ltb k n g) refl

pub room-both : (m k n : ℕ) → n ≤ m → n ≤ k → 0 ≡ refuse_if (ltb m n) 5 or_else refuse_if (ltb k n) 5
room-both m k n h g = rw (le-ltb m n h, le-ltb k n g) refl

-- the arrays, as their elements have them
pub arrays-are : {w w' v v' : ℕ} {s s' t t' : List ℕ} (u : List ℕ) → w ≡ w' → s ≡ s' → v ≡ v' → t ≡ t'
    → ◌≡◌ {A = Arrays} (record { data_bits = w; data_bytes = s; value_bits = v; value_bytes = t; repeat_bytes = u })
    (record { data_bits = w'; data_bytes = s'; value_bits = v'; value_bytes = t'; repeat_bytes = u })
arrays-are u a b c d = λ i. record { data_bits = a i; data_bytes = b i; value_bits = c i; value_bytes = d i; repeat_bytes = u }

pub walked-at : {write : Bool} {n : ℕ} {a b : Arrays} (at : RowPlaces) {x y x' y' : List ℕ} {r : ℕ} → a ≡ b
    → Walked write n (delta_row_at n a at) x y x' y' r → Walked write n (delta_row_at n b at) x y x' y' r
walked-at {write} {n} {a} {b} at {x} {y} {x'} {y'} {r} e k =
    subst (λ (c : Arrays). Walked write n (delta_row_at n c at) x y x' y' r) e k

-- ---- the call
module _ (n : ℕ) (a : Arrays) (at : RowPlaces) (x y : List ℕ) where
  unless-refused : (e : ℕ) → (e ≡ 0 → ⊥) → delta_refused e x y ≡ unless e (λ d. delta_refused d x y) (delta_left x y (delta_row_at n a at))
  unless-refused zero h = absurd (h refl)
  unless-refused (suc e) h = refl

  pub refused-first : {e : ℕ} → e ≡ row_number n a x y → (e ≡ 0 → ⊥) → delta_refused e x y ≡ delta_row n a at x y
  unfolding delta_row
  refused-first {e} is h =
      unless-refused e h ∙ ap (λ (d : ℕ). unless d (λ c. delta_refused c x y) (delta_left x y (delta_row_at n a at))) is

  read_is : row_number n a x y ≡ 0 → delta_left x y (delta_row_at n a at) ≡ delta_row n a at x y
  unfolding delta_row
  read_is z = rw z refl

  pub refused-walk : {e : ℕ} {x' y' : List ℕ} → row_number n a x y ≡ 0 → (e ≡ 0 → ⊥) → Walked false n (delta_row_at n a at) x y x' y' e
      → delta_refused e x' y' ≡ delta_row n a at x y
  refused-walk {e} {x'} {y'} z h k =
      let same : Unchanged x y x' y' = k.kept refl in
      ap (λ (m : List ℕ). delta_refused e m y') same.row
      ∙ ap (delta_refused e x) same.marks
      ∙ ap (delta_left x y) (sym (k.stopped h))
      ∙ read_is z

  written_is : {x' y' : List ℕ} (all : WalkedAll true n (delta_row_at n a at) x y x' y')
      → delta_outcome (record { number = 0; count = n }) x' y' ≡ delta_left x y (delta_row_at n a at)
  written_is {x'} {y'} all =
      let es : List Element = all.elements in
      let puts : PutsElements x y 0 es x' y' = all.written refl in
      let row : x' ≡ values_bytes es ++ drop (length (values_bytes es)) x =
      puts.row ∙ ap (λ (k : ℕ). values_bytes es ++ drop k x) (zero-add (length (values_bytes es))) in
      let marks : y' ≡ map mark_of es ++ drop (length es) y =
      puts.marks ∙ ap (λ (k : ℕ). map mark_of es ++ drop k y) (zero-add (length (map mark_of es)) ∙ length-map es mark_of) in
      ap (λ (m : List ℕ). delta_outcome (record { number = 0; count = n }) m y') row
      ∙ ap (delta_outcome (record { number = 0; count = n }) (values_bytes es ++ drop (length (values_bytes es)) x)) marks
      ∙ ap (λ (c : ℕ). delta_outcome (record { number = 0; count = c }) (values_bytes es ++ drop (length (values_bytes es)) x)
      (map mark_of es ++ drop (length es) y)) (sym all.whole.count)
      ∙ ap (delta_left x y) (sym all.whole.reading)

  -- judged done, it is written
  pub done-walk : {e d : ℕ} {x₁ y₁ x₂ y₂ : List ℕ} → row_number n a x y ≡ 0 → e ≡ 0 → Walked false n (delta_row_at n a at) x y x₁ y₁ e
      → Walked true n (delta_row_at n a at) x₁ y₁ x₂ y₂ d → delta_outcome (record { number = 0; count = n }) x₂ y₂ ≡ delta_row n a at x y
  done-walk {e} {d} {x₁} {y₁} {x₂} {y₂} z done k l =
      let same : Unchanged x y x₁ y₁ = k.kept refl in
      let here : Walked true n (delta_row_at n a at) x y x₂ y₂ d =
      subst (λ (m : List ℕ). Walked true n (delta_row_at n a at) m y x₂ y₂ d) same.row
      (subst (λ (m : List ℕ). Walked true n (delta_row_at n a at) x₁ m x₂ y₂ d) same.marks l) in
      let again : d ≡ 0 = by-test (eqb d 0) (eqb-true d 0) (λ t. absurd (both (k.done done).whole (here.stopped (eqb-false d 0 t)))) in
      written_is (here.done again) ∙ read_is z
    where
      clash : {es : List Element} {ds vs rs : List ℤ} {c : ℕ} → reads es ds vs rs ≡ stops c → ⊥
      clash e = absurd (let q : ◌≡◌ {A = ℕ} 0 1 = ap numbered e in omega arith)
        where
          numbered : RowReading → ℕ
          numbered (reads es ds vs rs) = 0
          numbered (stops c) = 1

      both : {es : List Element} {c : ℕ} → WholeRow n (delta_row_at n a at) es → delta_row_at n a at ≡ stops c → ⊥
      both w s = clash (sym w.reading ∙ s)
