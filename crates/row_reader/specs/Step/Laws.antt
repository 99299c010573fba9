-- The laws of a reader's place and of its step. Assumes nothing.
use Rattle.std.specs.Prelude.{ℕ, zero, suc, ◌+◌, ◌*◌, ◌≤◌, ◌<◌, ◌≡◌, Bool, true, false, not, ◌&&◌, List, drop}
use Rattle.std.proofs.Common.{arith, sym, ap, ◌∙◌}
use Rattle.std.proofs.Math.Path.{refl, subst}
use Rattle.std.proofs.Math.Dec.{ltb}
use borrow.Author.Tests.{lt-ltb, le-ltb, ltb-false}
use Rattle.bitstream.specs.Bits.{words_of, stream}
use Rattle.answer.specs.Outcome.{refuse_if}
use Rattle.answer.specs.Outcome.Laws.{or_else-zero-left, or_else-zero-right, refuse_if-zero, given-first, given-next, less_number-zero}
use Rattle.answer.specs.Outcome.Laws.{unless-refused, unless-in, or_else-in, refuse_if-in}
use Rattle.row_format.specs.Lists.Laws.{by-test, or-false-left, or-false-right}
use Rattle.row_format.specs.Row as row
use Rattle.row_format.specs.Reading.{Reading, item, fault}
use Rattle.row_format.proofs.Theorems.Numbers.{FaultIn, read_item-in}
use Rattle.row_item.specs.declared.Progress.{Progress}
use Rattle.row_item.specs.Coded.{coded, progress, Followed, row_state}
use Rattle.std.specs.Prelude.{Result, Ok, Err}
use Rattle.row_unpacker.specs.declared.item.Got.{Got}
use Rattle.row_unpacker.specs.Item.{Stopped, stopped, answered, item_at}
use Rattle.row_reader.specs.declared.step.Place.{Place}
use Rattle.row_reader.specs.Step.{ItemRead, impossible, opening_number, place_number, refused_at, given, reading_at, item_read}

-- ---- a place that a reading can have
pub record Possible (pl : Place) : Type 0 where
  pub few : pl.count ≤ 4096
  pub near : pl.at ≤ 27 * pl.count
  pub height : pl.progress.previous ≤ 4093
  -- where no pixel has become previous, it is 0
  pub settled : pl.progress ≡ progress (row_state pl.progress)

settled-by : (b : Bool) (h : ℕ) → (not b && ltb 0 h) ≡ false
    → ◌≡◌ {A = Progress} (record { begun = b; previous = h }) (progress (row_state (record { begun = b; previous = h })))
settled-by true h e = refl
settled-by false h e =
    let none : h ≡ 0 = omega (arith, ltb-false 0 h e) in
    rw none

settled-clear : (s : row.State) → (not (progress s).begun && ltb 0 (progress s).previous) ≡ false
settled-clear row.fresh = refl
settled-clear (row.past h) = refl

module _ (pl : Place) where
  pub possible : impossible pl ≡ false → Possible pl
  unfolding impossible
  possible e =
      let high = ltb 4093 pl.progress.previous in
      let far = or-false-right (ltb 4096 pl.count) _ e in
      let rest = or-false-right (ltb (27 * pl.count) pl.at) _ far in
      record {
        few = ltb-false 4096 pl.count (or-false-left _ _ e);
        near = ltb-false (27 * pl.count) pl.at (or-false-left _ _ far);
        height = ltb-false 4093 pl.progress.previous (or-false-left high _ rest);
        settled = settled-by pl.progress.begun pl.progress.previous (or-false-right high _ rest);
      }

  -- a place in the state s
  pub impossible-false : (s : row.State) → pl.progress ≡ progress s → pl.count ≤ 4096 → pl.at ≤ 27 * pl.count
      → pl.progress.previous ≤ 4093 → impossible pl ≡ false
  unfolding impossible
  impossible-false s is few near height =
      rw (le-ltb 4096 pl.count few, le-ltb (27 * pl.count) pl.at near, le-ltb 4093 pl.progress.previous height, is)
      (settled-clear s)

  -- by its tests, one after another
  pub impossible-many : 4096 < pl.count → true ≡ impossible pl
  unfolding impossible
  impossible-many many = rw (lt-ltb 4096 pl.count many)

  module _ (few : pl.count ≤ 4096) where
    pub impossible-far : 27 * pl.count < pl.at → true ≡ impossible pl
    unfolding impossible
    impossible-far far = rw (le-ltb 4096 pl.count few, lt-ltb (27 * pl.count) pl.at far)

    module _ (near : pl.at ≤ 27 * pl.count) where
      pub impossible-high : 4093 < pl.progress.previous → true ≡ impossible pl
      unfolding impossible
      impossible-high high =
          rw (le-ltb 4096 pl.count few, le-ltb (27 * pl.count) pl.at near, lt-ltb 4093 pl.progress.previous high)

      pub impossible-begun : (b : Bool) → pl.progress.previous ≤ 4093 → pl.progress.begun ≡ b
          → (not b && ltb 0 pl.progress.previous) ≡ impossible pl
      unfolding impossible
      impossible-begun b height begun =
          rw (le-ltb 4096 pl.count few, le-ltb (27 * pl.count) pl.at near, le-ltb 4093 pl.progress.previous height, begun)

  -- ---- what refuses before an item is read
  pub place_number-other : 3 < pl.opening → 11 ≡ place_number pl
  unfolding place_number
  place_number-other h = rw (lt-ltb 3 pl.opening h)

  pub place_number-unopened : pl.opening ≤ 3 → (pl.opening ≡ 0 → ⊥) → pl.opening ≡ place_number pl
  unfolding place_number
  place_number-unopened o h = rw (le-ltb 3 pl.opening o) (given-first pl.opening _ refl h)

  module _ (o : pl.opening ≡ 0) where
    pub place_number-impossible : impossible pl ≡ true → 11 ≡ place_number pl
    unfolding place_number
    place_number-impossible e = given-next (ap opening_number o) (rw e)

    module _ (e : impossible pl ≡ false) where
      pub place_number-full : 4096 ≤ pl.count → 11 ≡ place_number pl
      unfolding place_number
      place_number-full h = given-next (ap opening_number o) (rw (e, lt-ltb 4096 (pl.count + 1) (omega arith)))

      pub place_number-none : pl.count ≤ 4095 → 0 ≡ place_number pl
      unfolding place_number
      place_number-none h = given-next (ap opening_number o) (rw (e, le-ltb 4096 (pl.count + 1) (omega arith)))

    -- whatever else it is
    pub place_number-given : 4096 ≤ pl.count → 11 ≡ place_number pl
    place_number-given h = by-test (impossible pl) place_number-impossible (λ e. place_number-full e h)

-- a place where an item is read
pub record ItemPlace (pl : Place) : Type 0 where
  pub opened : pl.opening ≡ 0
  pub possible : Possible pl
  pub more : pl.count ≤ 4095

opening_number-zero : (o : ℕ) → opening_number o ≡ 0 → o ≡ 0
opening_number-zero o e = by-test (ltb 3 o) (λ h. absurd (let z : ◌≡◌ {A = ℕ} 11 0 = rw h at e in omega arith)) (λ h. rw h at e)

pub place_number-stands : (pl : Place) → place_number pl ≡ 0 → ItemPlace pl
unfolding place_number
place_number-stands pl e =
    let rest = or_else-zero-right (opening_number pl.opening) _ e in
    let few = less_number-zero 4096 (pl.count + 1) 10 (or_else-zero-right (refuse_if (impossible pl) 11) _ rest) in
    record {
      opened = opening_number-zero pl.opening (or_else-zero-left (opening_number pl.opening) _ e);
      possible = possible pl (refuse_if-zero (impossible pl) 10 (or_else-zero-left (refuse_if (impossible pl) 11) _ rest));
      more = omega arith;
    }

-- ---- the ways out of a step
module _ (tb wb : List ℕ) (pl : Place) where
  pub step-refused : (n : ℕ) → n ≡ place_number pl → (n ≡ 0 → ⊥) → refused_at n pl ≡ item_read tb wb pl
  unfolding item_read
  step-refused n is h =
      let read = given pl (row_state pl.progress) (reading_at tb wb pl) in
      rw (← is) (sym (unless-refused n (λ e. refused_at e pl) read h))

  pub item_read-number : (n : ℕ) → n ≡ place_number pl → (n ≡ 0 → ⊥) → (item_read tb wb pl).number ≡ n
  item_read-number n is h = sym (ap (λ (r : ItemRead). r.number) (step-refused n is h))

  abbrev state : row.State
  state = row_state pl.progress

  -- the place after an item, as the code makes it
  abbrev moved : Progress → ℕ → Place
  moved q next = record { at = next; count = pl.count + 1; progress = q; opening = pl.opening }

  got : (rd : Reading) (q : Progress) (x : Got) → Ok x ≡ answered state pl.at rd
      → pl.progress ≡ progress state → Followed pl.progress x.item x.pixel q
      → ◌≡◌ {A = ItemRead} (record { number = 0; item = x.item; pixel = x.pixel; place = moved q x.next }) (given pl state rd)
  got (item j u) q x e s f =
      let one : x.item ≡ coded j = cc in
      let two : x.pixel ≡ row.pixel_of state j = cc in
      let three : x.next ≡ pl.at + u = cc in
      rw (one, two, three, f.next state j s one two)
  got (fault k u) q x e s f = absurd (let z : ◌≡◌ {A = ℕ} 0 1 = cc in omega arith)

  refuses : (rd : Reading) (number place : ℕ) → Err (stopped number place) ≡ answered state pl.at rd
      → refused_at number pl ≡ given pl state rd
  refuses (item j u) number place e = absurd (let z : ◌≡◌ {A = ℕ} 0 1 = cc in omega arith)
  refuses (fault x u) number place e =
      let one : number ≡ x = cc in
      rw one

  module _ (none : place_number pl ≡ 0) where
    pub step-read : given pl state (reading_at tb wb pl) ≡ item_read tb wb pl
    unfolding item_read
    step-read = rw none

    -- r is the item reader's answer at this place
    module _ (r : Result Got Stopped) (is : r ≡ item_at tb wb pl.at pl.progress) where
      pub step-got : (q : Progress) (x : Got) → r ≡ Ok x → Followed pl.progress x.item x.pixel q
          → ◌≡◌ {A = ItemRead} (record { number = 0; item = x.item; pixel = x.pixel; place = moved q x.next }) (item_read tb wb pl)
      unfolding item_at
      step-got q x e f =
          let settled = (place_number-stands pl none).possible.settled in
          got (reading_at tb wb pl) q x (sym e ∙ is) settled f ∙ step-read

      pub step-faulty : (number place : ℕ) → r ≡ Err (stopped number place) → refused_at number pl ≡ item_read tb wb pl
      unfolding item_at
      step-faulty number place e = refuses (reading_at tb wb pl) number place (sym e ∙ is) ∙ step-read

-- ---- the numbers of a step, over any property P that they have
module _ (P : ℕ → Type 0) (p0 : P 0) (p1 : P 1) (p2 : P 2) (p3 : P 3) (p11 : P 11) where
  opening_number-in : (o : ℕ) → P (opening_number o)
  opening_number-in zero = p0
  opening_number-in (suc zero) = p1
  opening_number-in (suc (suc zero)) = p2
  opening_number-in (suc (suc (suc zero))) = p3
  opening_number-in (suc (suc (suc (suc o)))) = rw (lt-ltb 3 (suc (suc (suc (suc o)))) (omega arith)) p11

  place_number-in : (pl : Place) → P (place_number pl)
  unfolding place_number
  place_number-in pl =
      or_else-in P (opening_number pl.opening) _ (opening_number-in pl.opening)
      (or_else-in P (refuse_if (impossible pl) 11) _ (refuse_if-in P (impossible pl) 11 p0 p11)
      (refuse_if-in P (ltb 4096 (pl.count + 1)) 11 p0 p11))

  pub item_read-in : (tb wb : List ℕ) (pl : Place) → P 6 → P 7 → P 8 → P 9 → P (item_read tb wb pl).number
  unfolding item_read
  item_read-in tb wb pl p6 p7 p8 p9 =
      let s = row_state pl.progress in
      unless-in (λ r. P r.number) (place_number pl) (λ e. refused_at e pl) (given pl s (reading_at tb wb pl))
      (λ k e. subst P e (place_number-in pl))
      (λ e. given-in (reading_at tb wb pl) (read_item-in P p6 p7 p8 p9 (words_of tb) s (drop pl.at (stream wb))))
    where
      given-in : (rd : Reading) → FaultIn P rd → P (given pl (row_state pl.progress) rd).number
      given-in (item i u) h = p0
      given-in (fault x u) h = h
