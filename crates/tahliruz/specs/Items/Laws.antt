-- The ways out of the item call, and its numbers. Assumes nothing.
use Rattle.std.specs.Prelude.{ℕ, ◌≤◌, ◌<◌, ◌≡◌, refl, Bool, true, false, not, ◌⊎◌, List, ℤ, ltb, eqb}
use Rattle.std.proofs.Common.{arith, sym, ap, ◌∙◌, ⊎_elim, lt-ltb, le-ltb}
use Rattle.answer.specs.Outcome.{◌or_else◌, unless}
use Rattle.answer.specs.Outcome.Laws.{or_else-in, refuse_if-in, unless-in, unless-first, unless-refused, unless-number, or_else-zero-left}
use Rattle.answer.specs.Outcome.Laws.{given-first, given-next}
use Rattle.row_format.specs.Lists.Laws.{by-test}
use Rattle.row_format.specs.Table.{table_number}
use Rattle.row_format.proofs.Theorems.Numbers.{table_number-in}
use Rattle.row_reader.specs.declared.step.Place.{Place}
use Rattle.row_reader.specs.Step.{ItemRead, impossible, item_read}
use Rattle.row_reader.specs.Step.Laws.{possible, item_read-in}
use Rattle.row_reader.specs.Theorems.{reader-impossible, reader-possible}
use Rattle.tahliruz.specs.declared.item.ReaderPlace.{ReaderPlace}
use Rattle.tahliruz.specs.declared.item.ItemAnswer.{ItemAnswer}
use Rattle.tahliruz.specs.Items.{place_of, bit_of, flat_place, item_kind, item_step, refused_item, given_item, item_first_number, next_item}

module _ (tb wb : List ℕ) (p : ReaderPlace) where
  abbrev read : ItemRead
  read = item_read tb wb (place_of p)

  -- before the place is looked at
  pub next-first : (n : ℕ) → n ≡ item_first_number tb p → (n ≡ 0 → ⊥) → refused_item p n ≡ next_item tb wb p
  unfolding next_item
  next-first n is h = rw (← is) (sym (unless-first n read.number (refused_item p) (given_item read) h))

  -- x is the reading, as it was had
  module _ (none : 0 ≡ item_first_number tb p) (x : ItemRead) (e : x ≡ read) where
    -- the place after an item is a possible one, so that its bits fit 32 bits
    pub next-at : x.number ≡ 0 → x.place.at ≤ 4294967295
    next-at h =
        let ok : table_number tb ≡ 0 = or_else-zero-left (table_number tb) _ (sym none) in
        let after = possible read.place (reader-possible tb wb ok (place_of p) (sym (ap (λ (r : ItemRead). r.number) e) ∙ h)) in
        let same : x.place.at ≡ read.place.at = ap (λ (r : ItemRead). r.place.at) e in
        omega (arith, after.near, after.few)

    pub next-refused : (x.number ≡ 0 → ⊥) → refused_item p x.number ≡ next_item tb wb p
    unfolding next_item
    next-refused h = rw (← none, ← e) (sym (unless-refused x.number (refused_item p) (given_item x) h))

    pub next-given : (k : ℕ) (z : ℤ) (q : ReaderPlace) → x.number ≡ 0 → k ≡ item_kind x.item → z ≡ item_step x.item
        → q ≡ flat_place x.place
        → ◌≡◌ {A = ItemAnswer} (record { number = 0; kind = k; step = z; pixel = x.pixel; place = q }) (next_item tb wb p)
    unfolding next_item
    next-given k z q h ek ez eq = rw (ek, ez, eq, ← none, ← e, h)

-- ---- a refused table; a place that no reading has
module _ (tb wb : List ℕ) (p : ReaderPlace) where
  pub next_item-table : (table_number tb ≡ 0 → ⊥) → next_item tb wb p ≡ refused_item p (table_number tb)
  next_item-table some = sym (next-first tb wb p (table_number tb) (given-first (table_number tb) _ refl some) some)

  pub next_item-impossible : table_number tb ≡ 0 → (1 < p.begun) ⊎ (impossible (place_of p) ≡ true) → next_item tb wb p ≡ refused_item p 11
  next_item-impossible ok =
      ⊎_elim (λ many. begun (lt-ltb 1 p.begun many)) (λ odd. by-test (ltb 1 p.begun) begun (unread odd))
    where
      begun : ltb 1 p.begun ≡ true → next_item tb wb p ≡ refused_item p 11
      begun many = sym (next-first tb wb p 11 (given-next ok (rw many)) (λ z. omega arith))

      unread : impossible (place_of p) ≡ true → ltb 1 p.begun ≡ false → next_item tb wb p ≡ refused_item p 11
      unread odd few =
          let eleven = reader-impossible tb wb (place_of p) refl odd in
          let none : 0 ≡ item_first_number tb p = given-next ok (rw few) in
          rw eleven at (sym (next-refused tb wb p none (item_read tb wb (place_of p)) refl (λ z. omega arith)))

-- ---- a refusal, and a step
pub next_item-kept : (tb wb : List ℕ) (p : ReaderPlace) → ((next_item tb wb p).number ≡ 0 → ⊥)
    → next_item tb wb p ≡ refused_item p (next_item tb wb p).number
unfolding next_item
next_item-kept tb wb p =
    let r = item_read tb wb (place_of p) in
    unless-in (λ (a : ItemAnswer). (a.number ≡ 0 → ⊥) → a ≡ refused_item p a.number) (item_first_number tb p or_else r.number)
    (refused_item p) (given_item r) (λ k e h. refl) (λ e h. absurd (h refl))

bit-small : (b : Bool) → bit_of b ≤ 1
bit-small true = omega arith
bit-small false = omega arith

bit_not : (b : Bool) → not (eqb (bit_of b) 0) ≡ b
bit_not true = refl
bit_not false = refl

-- C's numbers for a place stand for that place
place_of-flat : (pl : Place) → pl.opening ≡ 0 → place_of (flat_place pl) ≡ pl
place_of-flat pl o = λ i.
    record {
      at = pl.at;
      count = pl.count;
      progress = record { begun = bit_not pl.progress.begun i; previous = pl.progress.previous };
      opening = sym o i;
    }

pub next_item-step : (tb wb : List ℕ) (pl : Place) → table_number tb ≡ 0 → pl.opening ≡ 0
    → next_item tb wb (flat_place pl) ≡ unless (item_read tb wb pl).number (refused_item (flat_place pl)) (given_item (item_read tb wb pl))
unfolding next_item
next_item-step tb wb pl ok o =
    rw (ok, le-ltb 1 (bit_of pl.progress.begun) (bit-small pl.progress.begun), place_of-flat pl o)

-- ---- the numbers, over any property P that they have
module _ (P : ℕ → Type 0) (p0 : P 0) (p1 : P 1) (p2 : P 2) (p3 : P 3) (p11 : P 11) where
  pub next_item-in : (tb wb : List ℕ) (p : ReaderPlace) → P 6 → P 7 → P 8 → P 9 → P (next_item tb wb p).number
  unfolding next_item
  next_item-in tb wb p p6 p7 p8 p9 =
      let r = item_read tb wb (place_of p) in
      let first = or_else-in P (table_number tb) _ (table_number-in P tb p0 p1 p2 p3) (refuse_if-in P (ltb 1 p.begun) 11 p0 p11) in
      let number = item_first_number tb p or_else r.number in
      rw (unless-number (λ (a : ItemAnswer). a.number) (refused_item p) (given_item r) (λ k. refl) number refl)
      (or_else-in P (item_first_number tb p) r.number first (item_read-in P p0 p1 p2 p3 p11 tb wb (place_of p) p6 p7 p8 p9))
