-- Where a walk ends, the reader has given the items before and stands at the place that the refusal gave back. Assumes nothing.
use Prim.Native.Nat.{ℕ, zero, suc}
use Rattle.std.specs.Prelude.{◌≡◌, true, false, List, [], ◌∷◌, eqb}
use Rattle.std.proofs.Common.{sym, subst}
use Rattle.std.proofs.Math.Path.{ap}
use Rattle.std.proofs.lemmas.Bool.{eqb-false}
use Rattle.row_format.specs.Lists.Laws.{by-test}
use Rattle.row_reader.specs.declared.step.Place.{Place}
use Rattle.row_reader.specs.Step.{ItemRead, refused_at, item_read}
use Rattle.row_reader.specs.Walk.{Walk, gave, ended, onto, walk}
use Rattle.row_reader.specs.Walk.Laws.{stays}

module _ (tb wb : List ℕ) where
  -- k items from the place pl, and there the refusal
  pub record Ends (pl : Place) (e k : ℕ) (pl' : Place) : Type 0 where
    pub pixels : List ℕ
    pub walked : walk tb wb k pl ≡ gave pixels pl'
    pub refused : item_read tb wb pl' ≡ refused_at e pl'

  abbrev EndsIf : Place → Walk → Type 0
  EndsIf pl (gave ps pl') = Unit {0}
  EndsIf pl (ended e k pl') = Ends pl e k pl'

  module _ (pl : Place) where
    onto-ends : eqb (item_read tb wb pl).number 0 ≡ true → (w : Walk) → EndsIf (item_read tb wb pl).place w
        → EndsIf pl (onto (item_read tb wb pl).pixel w)
    unfolding walk
    onto-ends given (gave ps pl') h = tt
    onto-ends given (ended e k pl') h = record {
      pixels = (item_read tb wb pl).pixel ∷ h.pixels;
      walked = rw (given, h.walked);
      refused = h.refused;
    }

    first_ends : eqb (item_read tb wb pl).number 0 ≡ false → Ends pl (item_read tb wb pl).number 0 (item_read tb wb pl).place
    unfolding walk
    first_ends some =
        let r = item_read tb wb pl in
        let still = stays tb wb pl (eqb-false r.number 0 some) in
        let same : (item_read tb wb pl).place ≡ pl = ap (λ (x : ItemRead). x.place) still in
        record { pixels = []; walked = ap (gave []) (sym same); refused = rw same still }

  walk_ends : (n : ℕ) (pl : Place) → EndsIf pl (walk tb wb n pl)
  unfolding walk
  walk_ends zero pl = tt
  walk_ends (suc n) pl =
      let r = item_read tb wb pl in
      by-test (eqb r.number 0)
      (λ given. rw given (onto-ends pl given (walk tb wb n r.place) (walk_ends n r.place)))
      (λ some. rw some (first_ends pl some))

  pub ended-ends : (n : ℕ) (pl : Place) (e k : ℕ) (pl' : Place) → walk tb wb n pl ≡ ended e k pl' → Ends pl e k pl'
  ended-ends n pl e k pl' w = subst (EndsIf pl) w (walk_ends n pl)
