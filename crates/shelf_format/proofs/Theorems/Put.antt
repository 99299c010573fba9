-- Which place a put takes, and when there is none. Assumes nothing.
use Rattle.std.specs.Prelude.{ℕ, suc, ◌+◌, ◌-◌, ◌≤◌, ◌<◌, ◌≡◌, Bool, true, false, List, ◌↔◌, length, eqb}
use Rattle.std.proofs.Common.{arith, sym, ap, ◌∙◌, subst}
use borrow.Author.Tests.{lt-ltb, eqb-true, eq-eqb, ne_eqb}
use Rattle.answer.specs.Outcome.{refuse_if}
use Rattle.answer.specs.Outcome.Laws.{refuse_if-given}
use Rattle.row_format.specs.Lists.Laws.{by-test, true-false, least-most}
use Rattle.row_format.specs.Table.{table_number}
use Rattle.shelf_format.specs.declared.PlaceChanged.{PlaceChanged}
use Rattle.shelf_format.specs.Shelf.{place, filled, is_free, is_party, first_own, is_own, view}
use Rattle.shelf_format.proofs.Shelf.Laws.{Own, own, own_is}
use Rattle.shelf_format.specs.Calls.{PlaceWritten, LowestFree, first_free, put_place, offer_number, shelf_put}
use Rattle.shelf_format.proofs.Calls.Laws.{PutGranted, put-granted, short_none, least-passes, least_at, first-own, first_free-places}
use Rattle.shelf_format.proofs.Theorems.Frame.{put-number, put-wrote}

module _ (s : List ℕ) (p : ℕ) where
  abbrev free : ℕ → Bool
  free k = is_free (place s (first_own p + k))

  -- a place of the party is one of its four
  which : (i : ℕ) → Own p i → first_own p + (i - first_own p) ≡ i
  which i o = omega (arith, o.least)

  -- the place that a done put takes
  pub put-own : (tb : List ℕ) → PutGranted s p tb → is_own p (put_place (view p s) p) ≡ true
  put-own tb ok = own_is p (put_place (view p s) p) (first-own p (first_free (view p s) p) ok.party ok.few)

  pub put-free : (tb : List ℕ) → PutGranted s p tb → is_free (place s (put_place (view p s) p)) ≡ true
  put-free tb ok =
      let is = first_free-places s p ok.party in
      rw is (least-passes free 4 (omega (arith, is, ok.few)))

  -- every lower one is taken
  pub put-lower : (tb : List ℕ) → PutGranted s p tb → (i : ℕ) → is_own p i ≡ true → i < put_place (view p s) p → is_free (place s i) ≡ false
  put-lower tb ok i mine lower =
      let o = own p i mine in
      let k = i - first_own p in
      let is = first_free-places s p ok.party in
      by-test (is_free (place s i))
      (λ here. absurd (omega (arith, lower, which i o, is, least-most free 4 k (ap (λ (j : ℕ). is_free (place s j)) (which i o) ∙ here))))
      (λ taken. taken)

  -- ---- all four are taken
  abbrev pub AllTaken : Type 0
  AllTaken = (i : ℕ) → is_own p i ≡ true → is_free (place s i) ≡ false

  module _ (party : is_party p ≡ true) where
    taken-full : AllTaken → first_free (view p s) p ≡ 4
    taken-full taken =
        first_free-places s p party
        ∙ least_at free 4 4 (omega arith)
        (λ k few. taken (first_own p + k) (own_is p (first_own p + k) (first-own p k party few))) (λ h. absurd (omega (arith, h)))

    full-taken : first_free (view p s) p ≡ 4 → AllTaken
    full-taken full i mine =
        let o = own p i mine in
        let k = i - first_own p in
        by-test (is_free (place s i))
        (λ here. absurd (omega (
          arith,
          first_free-places s p party,
          full,
          o.most,
          o.least,
          least-most free 4 k (ap (λ (j : ℕ). is_free (place s j)) (which i o) ∙ here),
        )))
        (λ taken. taken)

    pub put_full : (tb : List ℕ) → 393264 ≤ length s → table_number tb ≡ 0 → ((shelf_put s p tb).answer.number ≡ 22) ↔ AllTaken
    unfolding offer_number
    put_full tb long ok =
        let number : (shelf_put s p tb).answer.number ≡ refuse_if (eqb (first_free (view p s) p) 4) 22 =
        put-number s p tb ∙ rw (short_none s long, party, ok) in (
          λ h. full-taken (eqb-true (first_free (view p s) p) 4 (refuse_if-given (eqb (first_free (view p s) p) 4) 21 (sym number ∙ h))),
          λ taken. number ∙ rw (eq-eqb (first_free (view p s) p) 4 (taken-full taken)),
        )

-- ---- the order of the other numbers
module _ (s : List ℕ) (p : ℕ) (tb : List ℕ) where
  pub put-short : length s < 393264 → (shelf_put s p tb).answer.number ≡ 5
  put-short short = put-number s p tb ∙ rw (lt-ltb (length s) 393264 short)

  module _ (long : 393264 ≤ length s) where
    pub put-unknown : is_party p ≡ false → (shelf_put s p tb).answer.number ≡ 24
    unfolding offer_number
    put-unknown none = put-number s p tb ∙ rw (short_none s long, none)

    pub put_refused : {e : ℕ} → is_party p ≡ true → table_number tb ≡ suc e → (shelf_put s p tb).answer.number ≡ suc e
    unfolding offer_number
    put_refused party is = put-number s p tb ∙ rw (short_none s long, party, is)

    -- a free place is enough
    pub put-room : is_party p ≡ true → table_number tb ≡ 0 → (i : ℕ) → is_own p i ≡ true → is_free (place s i) ≡ true
        → (shelf_put s p tb).answer.number ≡ 0
    unfolding offer_number
    put-room party ok i mine free =
        let some : first_free (view p s) p ≡ 4 → ⊥ = λ full. true-false free (full-taken s p party full i mine) in
        put-number s p tb ∙ rw (short_none s long, party, ok, ne_eqb (first_free (view p s) p) 4 some)

-- ---- the place that a done put answers
module _ (s : List ℕ) (p : ℕ) (tb : List ℕ) (done : (shelf_put s p tb).answer.number ≡ 0) where
  here : (shelf_put s p tb).answer.place ≡ put_place (view p s) p
  here = ap (λ (a : PlaceChanged). a.place) (put-wrote s p tb done).answer

  ok : PutGranted s p tb
  ok = put-granted s p tb (sym (put-number s p tb) ∙ done)

  pub lowest : LowestFree s p (shelf_put s p tb).answer.place
  lowest = subst (LowestFree s p) (sym here) (record { its = put-own s p tb ok; free = put-free s p tb ok; lower = put-lower s p tb ok })

  pub lowest-wrote : PlaceWritten (shelf_put s p tb).answer.place (filled tb) s (shelf_put s p tb)
  lowest-wrote = subst (λ (j : ℕ). PlaceWritten j (filled tb) s (shelf_put s p tb)) (sym here) (put-wrote s p tb done)
