-- The numbers that each call on a shelf may answer. Assumes nothing.
use Rattle.std.specs.Prelude.{ℕ, suc, ◌≡◌, Bool, not, length, ltb, eqb}
use mathlib.Core.List.{List, [], ◌∷◌}
use Rattle.answer.specs.Outcome.{Outcome, refusal, refused, ◌or_else◌, refuse_if}
use Rattle.answer.specs.declared.Answer.{Answer}
use Rattle.answer.specs.Outcome.Laws.{or_else-in, refuse_if-in, unless-in}
use Rattle.row_format.specs.declared.RowUnpacked.{RowUnpacked}
use Rattle.row_format.specs.Table.{table_number}
use Rattle.row_format.specs.Calls.{packed, row_refused, unpacked, room}
use Rattle.row_format.proofs.Theorems.Numbers.{table_number-in, room_in, packed-in, unpacked-in}
use Rattle.shelf_format.specs.Shelf.{is_free, table_in, is_party, is_own, may_use, view}
use Rattle.shelf_format.specs.Calls.{short_number, tables_number, shelf_opened, first_free, offer_number, shelf_put, held_number, shelf_removed, use_refusal, shelf_packed, shelf_unpacked, shelf_room}
use Rattle.shelf_format.proofs.Theorems.Frame.{put-number, remove-number, open-number}

module _ (P : ℕ → Type 0) (p0 : P 0) (p5 : P 5) where
  short-in : (s : List ℕ) → P (short_number s)
  short-in s = refuse_if-in P (ltb (length s) 393264) 5 p0 p5

  tables-in : P 1 → P 2 → P 3 → (tbs : List (List ℕ)) → P (tables_number tbs)
  unfolding tables_number
  tables-in p1 p2 p3 [] = p0
  tables-in p1 p2 p3 (tb ∷ tbs) = or_else-in P (table_number tb) (tables_number tbs) (table_number-in P tb p0 p1 p2 p3) (tables-in p1 p2 p3 tbs)

  pub open_in : (t0 t1 t2 t3 s : List ℕ) → P 1 → P 2 → P 3 → P (shelf_opened t0 t1 t2 t3 s).answer.number
  open_in t0 t1 t2 t3 s p1 p2 p3 =
      let tables = t0 ∷ t1 ∷ t2 ∷ t3 ∷ [] in
      rw (open-number t0 t1 t2 t3 s) (or_else-in P (tables_number tables) (short_number s) (tables-in p1 p2 p3 tables) (short-in s))

  module _ (p24 : P 24) where
    pub put_in : (s : List ℕ) (p : ℕ) (tb : List ℕ) → P 1 → P 2 → P 3 → P 22 → P (shelf_put s p tb).answer.number
    unfolding offer_number
    put_in s p tb p1 p2 p3 p22 =
        let full = refuse_if (eqb (first_free (view p s) p) 4) 22 in
        rw (put-number s p tb)
        (or_else-in P (short_number s) (offer_number p tb or_else full) (short-in s)
        (or_else-in P (offer_number p tb) full
        (or_else-in P (refuse_if (not (is_party p)) 24) (table_number tb) (refuse_if-in P (not (is_party p)) 24 p0 p24)
        (table_number-in P tb p0 p1 p2 p3))
        (refuse_if-in P (eqb (first_free (view p s) p) 4) 22 p0 p22)))

    module _ (p23 : P 23) where
      held_in : (s : List ℕ) (may : Bool) (b : List ℕ) → P (short_number s or_else held_number may b)
      unfolding held_number
      held_in s may b =
          or_else-in P (short_number s) (held_number may b) (short-in s)
          (or_else-in P (refuse_if (not may) 24) (refuse_if (is_free b) 23) (refuse_if-in P (not may) 24 p0 p24)
          (refuse_if-in P (is_free b) 23 p0 p23))

      pub remove-in : (s : List ℕ) (p i : ℕ) → P (shelf_removed s p i).answer.number
      remove-in s p i = rw (remove-number s p i) (held_in s (is_own p i) (view p s i))

      module _ (s : List ℕ) (p i : ℕ) where
        abbrev number : ℕ
        number = use_refusal s p i

        -- refused by its number, or what the row's own call answers
        refused-in : {k : ℕ} → number ≡ suc k → P (suc k)
        refused-in e = rw e at (held_in s (may_use p i) (view p s i))

        pub pack-in : (pb m : List ℕ) → P 1 → P 2 → P 3 → P 11 → P 4 → P (shelf_packed s p i pb m).answer.number
        unfolding shelf_packed
        pack-in pb m p1 p2 p3 p11 p4 =
            unless-in (λ (o : Outcome Answer). P o.answer.number) number (λ e. refused e m) (packed (table_in (view p s i)) pb m)
            (λ k e. refused-in e) (λ e. packed-in P (table_in (view p s i)) pb m p0 p1 p2 p3 p11 p4 p5)

        pub unpack-in : (wb : List ℕ) (n : ℕ) (m : List ℕ) → P 1 → P 2 → P 3 → P 11 → P 6 → P 7 → P 8 → P 9 → P 10
            → P (shelf_unpacked s p i wb n m).answer.number
        unfolding shelf_unpacked
        unpack-in wb n m p1 p2 p3 p11 p6 p7 p8 p9 p10 =
            unless-in (λ (o : Outcome RowUnpacked). P o.answer.number) number (λ e. row_refused 0 e m)
            (unpacked (table_in (view p s i)) wb n m) (λ k e. refused-in e)
            (λ e. unpacked-in P (table_in (view p s i)) wb n m p0 p1 p2 p3 p11 p5 p6 p7 p8 p9 p10)

        pub room-in-shelf : (n : ℕ) → P 1 → P 2 → P 3 → P 11 → P (shelf_room s p i n).number
        unfolding shelf_room
        room-in-shelf n p1 p2 p3 p11 =
            unless-in (λ (a : Answer). P a.number) number refusal (room (table_in (view p s i)) n) (λ k e. refused-in e)
            (λ e. room_in P (table_in (view p s i)) n p0 p1 p2 p3 p11)
