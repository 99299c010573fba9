-- The turns print the listing. Assumes nothing.
use Rattle.std.specs.Prelude.{ℕ, zero, suc, ◌+◌, ◌<◌, ◌≡◌, refl, true, false, List, [], ◌∷◌, ◌++◌, length, drop, eqb}
use Rattle.std.proofs.Common.{arith, sym, ap, ◌∙◌, length-drop, eqb-true, ne_eqb}
use Rattle.std.proofs.lemmas.Bool.{eqb-false}
use Rattle.row_format.specs.Lists.Laws.{by-test, true-false}
use Rattle.sheet_format.specs.Context.{Context}
use Rattle.sheet_format.specs.Reading.{record_judged}
use Rattle.sheet_format.specs.Reading.Laws.{judged-length}
use Rattle.sheet_format.specs.Sheet.{record_here, records}
use Rattle.sheet_format.specs.Stream.{held_of, Carried, carried_first, context_by, carried_next, Next, ended, more, next_of}
use Rattle.sheet_format.proofs.Stream.Laws.{next_of-end, next_of-refused, next_of-accepted, next_of-goes-on, goes_on, next_of-held, context-next}
use Rattle.sheet_format.proofs.Theorems.Locality.{span-whole}
use Rattle.sheet_listing.specs.Line.{record_line}
use Rattle.sheet_listing.specs.Listing.{listing}
use Rattle.sheet_listing.specs.Listing.Laws.{listing_from, listing-end, listing-refused, listing-more, listing-nothing, listing-some}
use Rattle.sheet_listing.specs.Turns.{last_turn, turn_for, turn_of, turns}

-- ---- one turn
module _ (p : Carried) (b : List ℕ) where
  pub turn_of-refused : 0 < length b → ((record_judged (context_by p) b).number ≡ 0 → ⊥)
      → let a = record_judged (context_by p) b in turn_of p b ≡ last_turn p a.at a.number
  turn_of-refused some wrong = ap (turn_for p) (next_of-refused p b some wrong)

  pub turn_of-accepted : (record_judged (context_by p) b).number ≡ 0
      → turn_of p b
      ≡ record { line = record_line (record_here (context_by p) b); last = false; next = carried_next p b (record_judged (context_by p) b) }
  turn_of-accepted ok = ap (turn_for p) (next_of-accepted p b ok)

-- a turn that is not the last has an accepted record
turn_for-on : (p : Carried) (n : Next) → (turn_for p n).last ≡ false → goes_on n ≡ true
turn_for-on p (ended e at) on = true-false refl on
turn_for-on p (more x q) on = refl

pub turn_of-goes-on : (p : Carried) (b : List ℕ) → (turn_of p b).last ≡ false → (record_judged (context_by p) b).number ≡ 0
turn_of-goes-on p b on = next_of-goes-on p b (turn_for-on p (next_of p b) on)

-- the last one is by how the sheet ends
pub turn_for-last : (p : Carried) (n : Next) → (turn_for p n).last ≡ true
    → (P : Type 0) → ((e at : ℕ) → n ≡ ended e at → turn_for p n ≡ last_turn p at e → P) → P
turn_for-last p (ended e at) last P ends = ends e at refl refl
turn_for-last p (more x q) last P ends = true-false last refl

-- the bytes that are held give the turn of all that are left
pub turn_of-held : (p : Carried) (r : List ℕ) → turn_of p (held_of r) ≡ turn_of p r
turn_of-held p r = ap (turn_for p) (next_of-held p r)

-- ---- all turns
pub turns-from : (n : ℕ) (p : Carried) (r : List ℕ) → length r < n → (r ≡ [] → p.index ≡ 0 → ⊥)
    → turns n p r ≡ listing_from p.index p.rows (records (context_by p) r)
unfolding turns
turns-from zero p r h begun = absurd (omega arith)
turns-from (suc n) p [] h begun =
    rw (turn_of-held p [], next_of-end p, ne_eqb p.index 0 (begun refl)) (sym (listing-end p.index p.rows (context_by p)))
turns-from (suc n) p (x ∷ r) h begun =
    let s = x ∷ r in
    let c = context_by p in
    let a = record_judged c s in
    by-test (eqb a.number 0)
    (λ e.
    let ok = eqb-true a.number 0 e in
    let size = judged-length c s ok in
    let whole = span-whole s c ok in
    let next = carried_next p s a in
    let rest = turns-from n next (drop a.length s) (omega (arith, length-drop a.length s, size.0)) (λ z w. omega arith) in
    let on : Context → List ℕ = λ d. listing_from next.index next.rows (records d (drop a.length s)) in
    rw (turn_of-held p s, turn_of-accepted p s ok, whole)
    (ap (record_line (record_here c s) ++◌) (rest ∙ ap on (sym (context-next p s ok)))
    ∙ sym (listing-more p.index p.rows c x r ok)))
    (λ e.
    let wrong = eqb-false a.number 0 e in
    rw (turn_of-held p s, turn_of-refused p s (omega arith) wrong) (sym (listing-refused p.index p.rows c x r wrong)))

-- the turns print the listing, whatever the sheet's bytes are
pub turns-listing : (s : List ℕ) → turns (length s + 1) carried_first s ≡ listing s
unfolding turns
turns-listing [] = rw (turn_of-held carried_first [], next_of-end carried_first) (sym listing-nothing)
turns-listing (x ∷ r) =
    turns-from (length (x ∷ r) + 1) carried_first (x ∷ r) (omega arith) (λ e z. omega (arith, ap length e)) ∙ sym (listing-some x r)
