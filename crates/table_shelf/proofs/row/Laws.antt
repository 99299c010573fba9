-- The row's own call under the table of a place is the shelf's. Assumes nothing.
use Prim.Native.Nat.{ℕ, ◌+◌, ◌-◌, ◌*◌, ◌≤◌}
use native.Mathlib.Omega.{arith}
use mathlib.Core.Path.{◌≡◌, sym, ap, ◌∙◌}
use mathlib.Core.List.{List}
use lib.ListN.{length, take, drop}
use Rattle.answer.specs.declared.Answer.{Answer}
use Rattle.answer.specs.Outcome.{Outcome, outcome, refusal, refused}
use Rattle.row_format.specs.declared.RowUnpacked.{RowUnpacked}
use Rattle.row_format.specs.Place.Laws.{place_shown-zero}
use Rattle.row_format.specs.Calls.{packed, row_refused, unpacked, room}
use Rattle.shelf_format.specs.Shelf.{table_in, may_use, view}
use Rattle.shelf_format.proofs.Shelf.Laws.{view-usable}
use Rattle.shelf_format.specs.Calls.{use_refusal, shelf_packed, shelf_unpacked, shelf_room}
use Rattle.shelf_format.proofs.Calls.Laws.{refuses, passes, held, use-few}
use Rattle.table_shelf.specs.Place.{TableEnds}

module _ (s : List ℕ) (p i : ℕ) where
  abbrev number : ℕ
  number = use_refusal s p i

  -- ---- refused
  module _ {e : ℕ} (is : e ≡ number) (some : e ≡ 0 → ⊥) where
    pub pack-refused : (pb m : List ℕ) → refused e m ≡ shelf_packed s p i pb m
    unfolding shelf_packed
    pack-refused pb m = refuses (λ k. refused k m) (packed (table_in (view p s i)) pb m) is some

    pub unpack-refused : (wb : List ℕ) (n : ℕ) (m : List ℕ)
        → outcome (record { number = e; count = 0; at = 0 }) m ≡ shelf_unpacked s p i wb n m
    unfolding shelf_unpacked
    unpack-refused wb n m =
        ap (λ (at : ℕ). outcome (record { number = e; count = 0; at = at }) m) (sym (place_shown-zero e))
        ∙ refuses (λ k. row_refused 0 k m) (unpacked (table_in (view p s i)) wb n m) is some

    pub room-refused : (n : ℕ) → refusal e ≡ shelf_room s p i n
    unfolding shelf_room
    room-refused n = refuses refusal (room (table_in (view p s i)) n) is some

  -- ---- the place's table
  module _ (none : number ≡ 0) where
    pub inside : 32772 * i + 32772 ≤ length s
    inside =
        let h = held (may_use p i) s (view p s i) none in
        omega (arith, h.long, use-few p i h.allowed)

    module _ (r : ℕ) (ends : TableEnds s i r) where
      pub seen : take (r - 32772 * i) (drop (32772 * i) s) ≡ table_in (view p s i)
      seen = ends.table ∙ ap table_in (sym (view-usable p i s (held (may_use p i) s (view p s i) none).allowed))

    module _ {table : List ℕ} (seen : table ≡ table_in (view p s i)) where
      pub pack-done : (pb m : List ℕ) {o : Outcome Answer} → o ≡ packed table pb m → o ≡ shelf_packed s p i pb m
      unfolding shelf_packed
      pack-done pb m is = is ∙ ap (λ t. packed t pb m) seen ∙ passes (λ k. refused k m) (packed (table_in (view p s i)) pb m) none

      pub unpack-done : (wb : List ℕ) (n : ℕ) (m : List ℕ) {o : Outcome RowUnpacked} → o ≡ unpacked table wb n m
          → o ≡ shelf_unpacked s p i wb n m
      unfolding shelf_unpacked
      unpack-done wb n m is =
          is ∙ ap (λ t. unpacked t wb n m) seen ∙ passes (λ k. row_refused 0 k m) (unpacked (table_in (view p s i)) wb n m) none

      pub room-done : (n : ℕ) {a : Answer} → a ≡ room table n → a ≡ shelf_room s p i n
      unfolding shelf_room
      room-done n is = is ∙ ap (λ t. room t n) seen ∙ passes refusal (room (table_in (view p s i)) n) none
