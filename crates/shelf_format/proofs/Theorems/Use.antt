-- A use of a place: the row's own call with the table that stands there, or a refusal; and what is used after a put, a removal and an
-- opening. Assumes nothing.
use Prim.Native.Nat.{ℕ, zero, suc, ◌+◌, ◌-◌, ◌≤◌, ◌<◌}
use Rattle.std.proofs.Common.{arith, ◌∙◌, get_or-append-add}
use Rattle.std.specs.Prelude.{◌≡◌, refl, Bool, true, false, ◌||◌, length, drop, get_or, replicate}
use Rattle.std.proofs.Math.Path.{sym, ap}
use mathlib.Core.List.{List, [], ◌∷◌, ◌++◌}
use Rattle.std.proofs.Math.ListN.{get_or-append}
use Rattle.std.proofs.lemmas.List.{get_or-replicate}
use borrow.Author.Tests.{lt-ltb}
use Rattle.answer.specs.Outcome.{◌or_else◌}
use Rattle.answer.specs.Outcome.Laws.{less_number-zero, or_else-zero-left, or_else-zero-right}
use Rattle.row_format.specs.Table.{table_number}
use Rattle.shelf_format.specs.Shelf.{place, filled, is_free, table_in, is_party, is_common, is_own, may_use, view}
use Rattle.shelf_format.proofs.Shelf.Laws.{own, view-usable, table_filled, taken-filled, free-filled}
use Rattle.shelf_format.specs.Calls.{short_number, tables_number, shelved, shelf_opened, put_place, shelf_put, held_number, shelf_removed, RemovablePlace, use_refusal, UsablePlace, TableAt, UseRefused, UsesTable, shelf_packed, shelf_unpacked, shelf_room}
use Rattle.shelf_format.proofs.Calls.Laws.{short_none, remove-seen, use-seen, put-granted, held, place_opened}
use Rattle.shelf_format.proofs.Theorems.Frame.{put-number, remove-number, open-number, put-wrote, remove-wrote, open-within}
use Rattle.shelf_format.proofs.Theorems.Put.{put-own}

-- ---- the number, by what is so
module _ (s : List ℕ) (p i : ℕ) where
  abbrev number : ℕ
  number = use_refusal s p i

  pub use-short : length s < 393264 → number ≡ 5
  use-short short = rw (lt-ltb (length s) 393264 short)

  pub use-not-its : 393264 ≤ length s → may_use p i ≡ false → number ≡ 24
  unfolding held_number
  use-not-its long not-its = rw (short_none s long, not-its)

  pub use-free : 393264 ≤ length s → may_use p i ≡ true → is_free (place s i) ≡ true → number ≡ 23
  unfolding held_number
  use-free long may free = sym (use-seen s p i) ∙ rw (short_none s long, may, free)

  pub use-none : UsablePlace s p i → number ≡ 0
  unfolding held_number
  use-none u = sym (use-seen s p i) ∙ rw (short_none s u.long, u.allowed, u.taken)

  -- ---- refused
  pub uses-refused : {e : ℕ} → number ≡ suc e → UseRefused s p i (suc e)
  unfolding shelf_packed shelf_unpacked shelf_room
  uses-refused is = record { pack = λ pb m. rw is; unpack = λ wb n m. rw is; room = λ n. rw is }

  -- ---- the row's own call
  pub uses-table : {tb : List ℕ} → TableAt s p i tb → UsesTable s p i tb
  unfolding shelf_packed shelf_unpacked shelf_room
  uses-table t =
      let none = use-none t.usable in
      let seen = ap table_in (view-usable p i s t.usable.allowed) ∙ t.table in
      record { pack = λ pb m. rw (none, seen); unpack = λ wb n m. rw (none, seen); room = λ n. rw (none, seen) }

stands : (s : List ℕ) (p i : ℕ) (tb : List ℕ) → 393264 ≤ length s → may_use p i ≡ true → table_number tb ≡ 0 → place s i ≡ filled tb
    → TableAt s p i tb
stands s p i tb long may ok is = record {
  usable = record { long = long; allowed = may; taken = ap is_free is ∙ taken-filled tb ok };
  table = ap table_in is ∙ table_filled tb ok;
}

own-usable : (p i : ℕ) → is_party p ≡ true → is_own p i ≡ true → may_use p i ≡ true
unfolding may_use
own-usable p i party mine = rw (party, mine) (or-true (is_common i))
  where
    or-true : (b : Bool) → (b || true) ≡ true
    or-true true = refl
    or-true false = refl

own-party : (p i : ℕ) → is_own p i ≡ true → is_party p ≡ true
own-party p i mine = lt-ltb p 2 (own p i mine).party

-- ---- after a put: the place's table is the one that was put
pub put-stands : (s : List ℕ) (p : ℕ) (tb : List ℕ) → (shelf_put s p tb).answer.number ≡ 0
    → TableAt (shelf_put s p tb).memory p (shelf_put s p tb).answer.place tb
put-stands s p tb done =
    let ok = put-granted s p tb (sym (put-number s p tb) ∙ done) in
    let w = put-wrote s p tb done in
    let j = put_place (view p s) p in
    rw w.answer
    (stands (shelf_put s p tb).memory p j tb (omega (arith, w.only.size, ok.long)) (own-usable p j ok.party (put-own s p tb ok))
    ok.table
    w.here)

-- ---- the order of a removal's numbers
module _ (s : List ℕ) (p i : ℕ) where
  pub remove-short : length s < 393264 → (shelf_removed s p i).answer.number ≡ 5
  remove-short short = remove-number s p i ∙ rw (lt-ltb (length s) 393264 short)

  pub remove-not-its : 393264 ≤ length s → is_own p i ≡ false → (shelf_removed s p i).answer.number ≡ 24
  unfolding held_number
  remove-not-its long not-its = remove-number s p i ∙ rw (short_none s long, not-its)

  pub remove-none : 393264 ≤ length s → is_own p i ≡ true → is_free (place s i) ≡ true → (shelf_removed s p i).answer.number ≡ 23
  unfolding held_number
  remove-none long its free = remove-number s p i ∙ sym (remove-seen s p i) ∙ rw (short_none s long, its, free)

  pub removable : (shelf_removed s p i).answer.number ≡ 0 → RemovablePlace s p i
  removable done =
      let h = held (is_own p i) s (place s i) (remove-seen s p i ∙ sym (remove-number s p i) ∙ done) in
      record { long = h.long; its = h.allowed; taken = h.taken }

  pub remove-granted : RemovablePlace s p i → (shelf_removed s p i).answer.number ≡ 0
  unfolding held_number
  remove-granted r = remove-number s p i ∙ sym (remove-seen s p i) ∙ rw (short_none s r.long, r.its, r.taken)

-- ---- after a removal: 23
pub remove-free : (s : List ℕ) (p i : ℕ) → (shelf_removed s p i).answer.number ≡ 0
    → use_refusal (shelf_removed s p i).memory p i ≡ 23
remove-free s p i done =
    let h = held (is_own p i) s (view p s i) (sym (remove-number s p i) ∙ done) in
    let w = remove-wrote s p i done in
    use-free (shelf_removed s p i).memory p i (omega (arith, w.only.size, h.long))
    (own-usable p i (own-party p i h.allowed) h.allowed) (ap is_free w.here ∙ free-filled)

-- ---- after an opening
module _ (t0 t1 t2 t3 s : List ℕ) (done : (shelf_opened t0 t1 t2 t3 s).answer.number ≡ 0) where
  abbrev tables : List (List ℕ)
  tables = t0 ∷ t1 ∷ t2 ∷ t3 ∷ []

  none : (tables_number tables or_else short_number s) ≡ 0
  none = sym (open-number t0 t1 t2 t3 s) ∙ done

  good : tables_number tables ≡ 0
  good = or_else-zero-left (tables_number tables) (short_number s) none

  pub open-long : 393264 ≤ length s
  open-long = less_number-zero (length s) 393264 4 (or_else-zero-right (tables_number tables) (short_number s) none)

  left : (shelf_opened t0 t1 t2 t3 s).memory
      ≡ shelved (tables ++ replicate 8 []) ++ drop (length (shelved (tables ++ replicate 8 []))) s
  unfolding shelf_opened
  left = rw none

  -- each place
  pub open-place : (i : ℕ) → i < 12 → place (shelf_opened t0 t1 t2 t3 s).memory i ≡ filled (get_or (tables ++ replicate 8 []) i [])
  open-place i few = ap (λ x. place x i) left ∙ place_opened t0 t1 t2 t3 (drop (length (shelved (tables ++ replicate 8 []))) s) i good few

  accepted-at : (tbs : List (List ℕ)) (i : ℕ) → tables_number tbs ≡ 0 → i < length tbs → table_number (get_or tbs i []) ≡ 0
  unfolding tables_number
  accepted-at [] i ok few = absurd (omega (arith, few))
  accepted-at (tb ∷ tbs) zero ok few = or_else-zero-left (table_number tb) (tables_number tbs) ok
  accepted-at (tb ∷ tbs) (suc i) ok few = accepted-at tbs i (or_else-zero-right (table_number tb) (tables_number tbs) ok) (omega (arith, few))

  long' : 393264 ≤ length (shelf_opened t0 t1 t2 t3 s).memory
  long' = omega (arith, (open-within t0 t1 t2 t3 s).size, open-long)

  -- a common one has its table, for both
  pub open-stands : (p i : ℕ) → is_party p ≡ true → i < 4 → TableAt (shelf_opened t0 t1 t2 t3 s).memory p i (get_or tables i [])
  unfolding may_use
  open-stands p i party few =
      stands (shelf_opened t0 t1 t2 t3 s).memory p i (get_or tables i []) long' (rw (party, lt-ltb i 4 few)) (accepted-at tables i good few)
      (open-place i (omega (arith, few)) ∙ ap filled (get_or-append tables (replicate 8 []) [] i few))

  -- all others are free
  pub open_free : (p i : ℕ) → is_own p i ≡ true
      → use_refusal (shelf_opened t0 t1 t2 t3 s).memory p i ≡ 23
  open_free p i mine =
      let o = own p i mine in
      let k = i - 4 in
      let sum : i ≡ 4 + k = omega (arith, o.least) in
      let few : k < 8 = omega (arith, o.party, o.most) in
      let empty : get_or (tables ++ replicate 8 []) i [] ≡ [] =
      ap (λ (j : ℕ). get_or (tables ++ replicate 8 []) j []) sum
      ∙ get_or-append-add tables (replicate 8 []) k [] ∙ get_or-replicate 8 k [] [] few in
      let here = open-place i (omega (arith, o.party, o.most)) ∙ ap filled empty in
      use-free (shelf_opened t0 t1 t2 t3 s).memory p i long' (own-usable p i (own-party p i mine) mine) (ap is_free here ∙ free-filled)
