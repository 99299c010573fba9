-- A put by its refusals and its place. Assumes nothing.
use Prim.Native.Nat.{ℕ, ◌+◌, ◌≤◌, ◌<◌}
use native.Mathlib.Decide.{ℕ_discrete}
use native.Mathlib.Omega.{arith}
use mathlib.Core.Path.{◌≡◌, sym, ap, ◌∙◌}
use mathlib.Core.Bool.{true, false}
use mathlib.Core.List.{List}
use lib.ListN.{length}
use lib.Dec.{eqb}
use borrow.Author.Tests.{lt-ltb, le-ltb, eq-eqb, ne_eqb}
use Rattle.answer.specs.Outcome.{outcome, ◌or_else◌, refuse_if}
use Rattle.answer.specs.Outcome.Laws.{or_else-assoc, or_else-zero-left, or_else-zero-right, less_number-zero, given-first, given-next}
use Rattle.row_format.specs.Table.{table_number}
use Rattle.shelf_format.specs.Shelf.{place, placed, filled, is_free, is_party, first_own, view}
use Rattle.shelf_format.proofs.Shelf.Laws.{table-bytes}
use Rattle.shelf_format.specs.Calls.{short_number, not_changed, first_free, put_place, offer_number, put_refusal, shelf_put, changed}
use Rattle.shelf_format.proofs.Calls.Laws.{short_none, refuses, passes, least_at, first_free-places, Offered, offered}

-- ---- before the shelf is looked through
module _ (s : List ℕ) (p : ℕ) (tb : List ℕ) where
  pub before-short : length s < 393264 → 5 ≡ (short_number s or_else offer_number p tb)
  unfolding offer_number
  before-short short = rw (lt-ltb (length s) 393264 short)

  pub before-table : 393264 ≤ length s → p < 2 → table_number tb ≡ (short_number s or_else offer_number p tb)
  unfolding offer_number
  before-table long party = rw (short_none s long, lt-ltb p 2 party)

  pub before-party : 393264 ≤ length s → 2 ≤ p → 24 ≡ (short_number s or_else offer_number p tb)
  unfolding offer_number
  before-party long other = rw (short_none s long, le-ltb p 2 other)

  -- ---- and then
  whole : put_refusal s p tb ≡ ((short_number s or_else offer_number p tb) or_else refuse_if (eqb (first_free (view p s) p) 4) 22)
  whole = sym (or_else-assoc (short_number s) (offer_number p tb) (refuse_if (eqb (first_free (view p s) p) 4) 22))

  -- refused before
  pub put-before : {e : ℕ} → e ≡ (short_number s or_else offer_number p tb) → (e ≡ 0 → ⊥)
      → outcome (not_changed e) s ≡ shelf_put s p tb
  unfolding shelf_put
  put-before {e} is some =
      refuses (λ k. outcome (not_changed k) s) (changed s (put_place (view p s) p) (filled tb))
      (given-first _ _ is some ∙ sym whole) some

  module _ (none : (short_number s or_else offer_number p tb) ≡ 0) where
    -- what is known then
    pub long : 393264 ≤ length s
    long = less_number-zero (length s) 393264 4 (or_else-zero-left (short_number s) (offer_number p tb) none)

    offer : Offered p tb
    offer = offered p tb (or_else-zero-right (short_number s) (offer_number p tb) none)

    pub party : is_party p ≡ true
    party = offer.party

    pub table : length tb ≤ 32772
    table = (table-bytes tb offer.table).most

    -- refused for a full shelf, or done
    pub put_full : first_free (view p s) p ≡ 4 → outcome (not_changed 22) s ≡ shelf_put s p tb
    unfolding shelf_put
    put_full full =
        refuses (λ e. outcome (not_changed e) s) (changed s (put_place (view p s) p) (filled tb))
        (given-next none (rw (eq-eqb (first_free (view p s) p) 4 full)) ∙ sym whole) (λ e. omega (arith, e))

    pub put-done : {k : ℕ} → k ≡ first_free (view p s) p → k < 4 → {x : List ℕ} → x ≡ placed s (first_own p + k) (filled tb)
        → outcome (record { number = 0; place = first_own p + k }) x ≡ shelf_put s p tb
    unfolding shelf_put
    put-done {k} is few left =
        ap (λ m. outcome (record { number = 0; place = first_own p + k }) m) left
        ∙ ap (λ (j : ℕ). changed s (first_own p + j) (filled tb)) is
        ∙ passes (λ e. outcome (not_changed e) s) (changed s (put_place (view p s) p) (filled tb))
        (whole ∙ rw (none, ne_eqb (first_free (view p s) p) 4 (λ e. omega (arith, is, e, few))))

-- ---- looking for a free place
-- those before the k-th are taken
pub record Taken (s : List ℕ) (p k : ℕ) : Type 0 where
  pub most : k ≤ 4
  pub taken : (j : ℕ) → j < k → is_free (place s (first_own p + j)) ≡ false

pub taken_none_lem : (s : List ℕ) (p : ℕ) → Taken s p 0
taken_none_lem s p = record { most = omega arith; taken = λ j h. absurd (omega (arith, h)) }

pub taken_more : (s : List ℕ) (p k : ℕ) → Taken s p k → k < 4 → is_free (place s (first_own p + k)) ≡ false → Taken s p (k + 1)
taken_more s p k t few here = record { most = omega (arith, few); taken = λ j h. earlier j (ℕ_discrete j k) h }
  where
    earlier : (j : ℕ) → Dec (j ≡ k) → j < k + 1 → is_free (place s (first_own p + j)) ≡ false
    earlier j (yes e) h = rw e here
    earlier j (no e) h = t.taken j (omega (arith, e, h))

module _ (s : List ℕ) (p : ℕ) (party : is_party p ≡ true) where
  pub free-found : (k : ℕ) → Taken s p k → is_free (place s (first_own p + k)) ≡ true → k ≡ first_free (view p s) p
  free-found k t here =
      sym (first_free-places s p party ∙ least_at (λ j. is_free (place s (first_own p + j))) 4 k t.most t.taken (λ h. here))

  pub free-none : (k : ℕ) → Taken s p k → 4 ≤ k → 4 ≡ first_free (view p s) p
  free-none k t all =
      let end : k ≡ 4 = omega (arith, t.most, all) in
      sym end ∙ sym (first_free-places s p party
      ∙ least_at (λ j. is_free (place s (first_own p + j))) 4 k t.most t.taken (λ h. absurd (omega (arith, h, all))))
