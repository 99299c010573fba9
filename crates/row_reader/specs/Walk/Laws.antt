-- What the reader's steps have to do with the whole-row call. Assumes nothing.
use Prim.Native.Nat.{ℕ, zero, suc, ◌+◌, ◌*◌, ◌≤◌, ◌<◌}
use Rattle.std.proofs.Common.{add-zero, not-suc-le-zero, le_trans, arith, ◌∙◌, drop-drop, ne_eqb, eqb-true}
use Rattle.std.proofs.Math.Nat.{add_assoc}
use Rattle.std.specs.Prelude.{◌≡◌, false, drop, eqb}
use Rattle.std.proofs.Math.Path.{refl, sym, ap, subst}
use Rattle.std.proofs.Math.Bool.{cond}
use mathlib.Core.List.{List, [], ◌∷◌}
use Rattle.bitstream.specs.Bits.{words_of, stream}
use Rattle.bitstream.specs.Bits.Laws.{below-flat, below-drop}
use Rattle.answer.specs.Outcome.Laws.{unless-in}
use Rattle.row_format.specs.Lists.Laws.{by-test}
use Rattle.row_format.specs.Table.{table_number, max_item_bits, Accepted}
use Rattle.row_format.specs.Table.Laws.{accepted, table_number-verdict, max_item_bits-most}
use Rattle.row_format.specs.Row as row
use Rattle.row_format.specs.Row.{pixels_of}
use Rattle.row_format.specs.Reading.{Reading, item, fault, bits_of_reading, Run, done, stop, prepend, read_item, read_by}
use Rattle.row_format.proofs.Theorems.Bounds.{read_item-uses}
use Rattle.row_format.proofs.Theorems.Items.{after-height}
use Rattle.row_format.proofs.Theorems.Numbers.{FaultIn, read_item-in}
use Rattle.row_format.proofs.Theorems.Standing as standing
use Rattle.row_item.specs.declared.Progress.{Progress}
use Rattle.row_item.specs.Coded.{progress, row_state}
use Rattle.row_item.specs.Coded.Laws.{row_state-progress}
use Rattle.row_reader.specs.declared.step.Place.{Place}
use Rattle.row_reader.specs.Step.{ItemRead, start_place, impossible, place_number, refused_at, place_after, given, reading_at, item_read}
use Rattle.row_reader.specs.Step.Laws.{impossible-false, place_number-none, ItemPlace, place_number-stands, step-read}
use Rattle.row_reader.specs.Walk.{Walk, gave, ended, onto, walk}

-- ---- one step
-- a reader of an accepted table, in the state s: after count items it has used at most 27 bits for each
pub record At (pl : Place) (s : row.State) : Type 0 where
  pub is : pl.progress ≡ progress s
  pub near : pl.at ≤ 27 * pl.count
  pub height : row.previous s ≤ 4093
  pub opened : pl.opening ≡ 0

previous-progress : (s : row.State) → (progress s).previous ≡ row.previous s
previous-progress row.fresh = refl
previous-progress (row.past h) = refl

-- it is a possible place
at-possible : (pl : Place) (s : row.State) → At pl s → pl.count ≤ 4096 → impossible pl ≡ false
at-possible pl s a few =
    impossible-false pl s a.is few a.near (rw (a.is, previous-progress s) a.height)

module _ (tb wb : List ℕ) where
  -- the reading in the state s
  abbrev reading : Place → row.State → Reading
  reading pl s = read_item (words_of tb) s (drop pl.at (stream wb))

  step_given : (pl : Place) (s : row.State) → At pl s → pl.count ≤ 4095 → item_read tb wb pl ≡ given pl s (reading pl s)
  step_given pl s a more =
      let e : row_state pl.progress ≡ s = ap row_state a.is ∙ row_state-progress s in
      let none = sym (place_number-none pl a.opened (at-possible pl s a (omega arith)) more) in
      sym (step-read tb wb pl none) ∙ rw e

  -- by whether it is refused before an item is read
  by_place : (P : ItemRead → Type 0) (pl : Place) → ((k : ℕ) → P (refused_at (suc k) pl))
      → (place_number pl ≡ 0 → P (given pl (row_state pl.progress) (reading_at tb wb pl))) → P (item_read tb wb pl)
  unfolding item_read
  by_place P pl shut read =
      let give = given pl (row_state pl.progress) (reading_at tb wb pl) in
      unless-in P (place_number pl) (λ e. refused_at e pl) give (λ k e. shut k) read

  pub stays : (pl : Place) → ((item_read tb wb pl).number ≡ 0 → ⊥) → item_read tb wb pl ≡ refused_at (item_read tb wb pl).number pl
  stays pl = by_place Still pl (λ e h. refl) (λ none. still (reading_at tb wb pl))
    where
      Still : ItemRead → Type 0
      Still r = (r.number ≡ 0 → ⊥) → r ≡ refused_at r.number pl

      still : (rd : Reading) → Still (given pl (row_state pl.progress) rd)
      still (item i u) h = absurd (h refl)
      still (fault e u) h = refl

  -- so that an answer's refusal is at the place that was given
  pub item_read-place : (pl : Place) (r : ItemRead) → r ≡ item_read tb wb pl
      → (r ≡ item_read tb wb pl) × ((r.number ≡ 0 → ⊥) → r.place ≡ pl)
  item_read-place pl r is = (is, λ some. ap (λ (x : ItemRead). x.place) (is ∙ stays pl (rw (← is) some)))

  pub moves : (pl : Place) → (item_read tb wb pl).place.at ≤ pl.at + max_item_bits (words_of tb)
  moves pl =
      let uses = read_item-uses (words_of tb) (row_state pl.progress) (drop pl.at (stream wb)) in
      by_place Near pl (λ e. omega arith) (λ none. within (reading_at tb wb pl) uses)
    where
      Near : ItemRead → Type 0
      Near r = r.place.at ≤ pl.at + max_item_bits (words_of tb)

      within : (rd : Reading) → bits_of_reading rd ≤ max_item_bits (words_of tb) → Near (given pl (row_state pl.progress) rd)
      within (item i u) h = omega arith
      within (fault e u) h = omega arith

  -- what a step's reading makes of the rest of a walk
  abbrev onward : Place → row.State → ℕ → Reading → Walk
  onward pl s n (item i u) = onto (row.pixel_of s i) (walk tb wb n (place_after pl s i u))
  onward pl s n (fault e u) = ended e 0 pl

  -- no faulty item has the number 0
  real : (s : row.State) (r : List ℕ) → FaultIn (λ e. e ≡ 0 → ⊥) (read_item (words_of tb) s r)
  real s r =
      read_item-in (λ e. e ≡ 0 → ⊥) (λ z. omega arith) (λ z. omega arith) (λ z. omega arith) (λ z. omega arith) (words_of tb) s r

  walk-suc : (n : ℕ) (pl : Place) (s : row.State) → At pl s → pl.count ≤ 4095
      → walk tb wb (suc n) pl ≡ onward pl s n (reading pl s)
  unfolding walk
  walk-suc n pl s a more = rw (step_given pl s a more) (by-reading (reading pl s) (real s (drop pl.at (stream wb))))
    where
      taken : ItemRead → Walk
      taken r = cond (eqb r.number 0) (onto r.pixel (walk tb wb n r.place)) (ended r.number 0 r.place)

      by-reading : (rd : Reading) → FaultIn (λ e. e ≡ 0 → ⊥) rd → taken (given pl s rd) ≡ onward pl s n rd
      by-reading (item i u) h = refl
      by-reading (fault e u) h = rw (ne_eqb e 0 h)

  -- ---- many steps
  -- the reading of n items from a place
  abbrev pub run : Place → row.State → ℕ → Run
  run pl s n = read_by (read_item (words_of tb)) s n (drop pl.at (stream wb))

  -- a run of so many items is read whole
  pub record Whole (pl : Place) (s : row.State) (n : ℕ) (ps : List ℕ) (pl' : Place) : Type 0 where
    pub items : List row.Item
    pub used : ℕ
    pub read : run pl s n ≡ done items used
    pub pixels : pixels_of s items ≡ ps
    pub place : pl'.at ≡ pl.at + used

  -- a run of j items stops at the bit place at, which it counts from where it began
  pub record Stops (pl : Place) (s : row.State) (j e at : ℕ) : Type 0 where
    pub fault_at : ℕ
    pub used : ℕ
    pub read : run pl s j ≡ stop e fault_at used
    pub place : at ≡ pl.at + fault_at

  -- what a walk of n steps says of the rows
  abbrev pub Agrees : Place → row.State → ℕ → Walk → Type 0
  Agrees pl s n (gave ps pl') = Whole pl s n ps pl'
  Agrees pl s n (ended e k pl') = (k < n) × ((j : ℕ) → k < j → Stops pl s j e pl'.at)

  module _ (pl : Place) (s : row.State) where
    -- after an item i of u bits
    module _ (i : row.Item) (u : ℕ) (e : reading pl s ≡ item i u) where
      abbrev next : Place
      next = place_after pl s i u

      run-suc : (n : ℕ) → run pl s (suc n) ≡ prepend i u (run next (row.after s i) n)
      unfolding read_by
      run-suc n = rw e (ap rest (drop-drop u pl.at (stream wb)))
        where
          rest : List ℕ → Run
          rest l = prepend i u (read_by (read_item (words_of tb)) (row.after s i) n l)

      onto-agrees : (n : ℕ) (w : Walk) → Agrees next (row.after s i) n w → Agrees pl s (suc n) (onto (row.pixel_of s i) w)
      unfolding pixels_of
      onto-agrees n (gave ps pl') a =
          record {
            items = i ∷ a.items;
            used = u + a.used;
            read = run-suc n ∙ ap (prepend i u) a.read;
            pixels = ap (row.pixel_of s i ∷◌) a.pixels;
            place = a.place ∙ add_assoc pl.at u a.used;
          }
      onto-agrees n (ended x k pl') a = (omega (arith, a.0), go)
        where
          go : (j : ℕ) → suc k < j → Stops pl s j x pl'.at
          go zero h = absurd (not-suc-le-zero h)
          go (suc j) h =
              let b = a.1 j (omega arith) in
              record {
                fault_at = u + b.fault_at;
                used = u + b.used;
                read = run-suc j ∙ ap (prepend i u) b.read;
                place = b.place ∙ add_assoc pl.at u b.fault_at;
              }

    fault-agrees : (x u : ℕ) → reading pl s ≡ fault x u → (j : ℕ) → 0 < j → Stops pl s j x pl.at
    unfolding read_by
    fault-agrees x u e zero h = absurd (not-suc-le-zero h)
    fault-agrees x u e (suc j) h = record { fault_at = 0; used = u; read = rw e; place = sym (add-zero pl.at) }

  module _ (ok : table_number tb ≡ 0) where
    sound : Accepted (words_of tb)
    sound = accepted (words_of tb) (table_number-verdict tb ok)

    few : (s : row.State) (r : List ℕ) → bits_of_reading (read_item (words_of tb) s r) ≤ 27
    few s r = le_trans (read_item-uses (words_of tb) s r) (max_item_bits-most (words_of tb) sound)

    -- the place after an item that is read
    at_next : (pl : Place) (s : row.State) (i : row.Item) (u : ℕ) → At pl s → reading pl s ≡ item i u
        → At (place_after pl s i u) (row.after s i)
    at_next pl s i u a e =
        let rest = drop pl.at (stream wb) in
        let h : u ≤ 27 = subst (λ (rd : Reading). bits_of_reading rd ≤ 27) e (few s rest) in
        let there = standing.read_item-stands (words_of tb) sound s rest (below-drop pl.at (stream wb) (below-flat 8 _)) in
        let fits = (subst (standing.Stands (words_of tb) s rest) e there).0 in
        record {
          is = refl;
          near = omega (arith, a.near);
          height = after-height (words_of tb) s i a.height fits;
          opened = a.opened;
        }

    by-reading : (pl : Place) (s : row.State) (n : ℕ) (rd : Reading) → reading pl s ≡ rd
        → ((i : row.Item) (u : ℕ) → reading pl s ≡ item i u
        → Agrees (place_after pl s i u) (row.after s i) n (walk tb wb n (place_after pl s i u)))
        → Agrees pl s (suc n) (onward pl s n rd)
    by-reading pl s n (item i u) e rest = onto-agrees pl s i u e n (walk tb wb n (place_after pl s i u)) (rest i u e)
    by-reading pl s n (fault x u) e rest = (omega arith, fault-agrees pl s x u e)

    pub walk-agrees : (n : ℕ) (pl : Place) (s : row.State) → At pl s → pl.count + n ≤ 4096 → Agrees pl s n (walk tb wb n pl)
    unfolding walk read_by pixels_of
    walk-agrees zero pl s a h =
        record { items = []; used = 0; read = refl; pixels = refl; place = sym (add-zero pl.at) }
    walk-agrees (suc n) pl s a h =
        rw (walk-suc n pl s a (omega arith))
        (by-reading pl s n (reading pl s) refl
        (λ i u e. walk-agrees n (place_after pl s i u) (row.after s i) (at_next pl s i u a e) (omega arith)))

    -- ---- possible places: every item that is given leads to one
    stands_at : (pl : Place) → ItemPlace pl → At pl (row_state pl.progress)
    stands_at pl st =
        let s = row_state pl.progress in
        let h : row.previous (row_state pl.progress) ≡ pl.progress.previous =
        sym (previous-progress s) ∙ sym (ap (λ (p : Progress). p.previous) st.possible.settled) in
        record {
          is = st.possible.settled;
          near = st.possible.near;
          height = omega (arith, st.possible.height);
          opened = st.opened;
        }

    pub given-possible : (pl : Place) → (item_read tb wb pl).number ≡ 0 → impossible (item_read tb wb pl).place ≡ false
    given-possible pl = by_place Possible' pl (λ k h. absurd (omega arith))
        (λ none. by_read (place_number-stands pl none) (reading_at tb wb pl) refl (real (row_state pl.progress) _))
      where
        Possible' : ItemRead → Type 0
        Possible' r = r.number ≡ 0 → impossible r.place ≡ false

        by_read : ItemPlace pl → (rd : Reading) → reading_at tb wb pl ≡ rd → FaultIn (λ e. e ≡ 0 → ⊥) rd
            → Possible' (given pl (row_state pl.progress) rd)
        by_read st (item i u) e some h =
            let s = row_state pl.progress in
            let after = at_next pl s i u (stands_at pl st) e in
            at-possible (place_after pl s i u) (row.after s i) after (omega (arith, st.more))
        by_read st (fault x u) e some h = absurd (some h)

    -- so that every walk's place is one
    abbrev PossibleAfter : Walk → Type 0
    PossibleAfter (gave ps pl) = impossible pl ≡ false
    PossibleAfter (ended e k pl) = Unit {0}

    onto-possible : (p : ℕ) (w : Walk) → PossibleAfter w → PossibleAfter (onto p w)
    onto-possible p (gave ps pl) h = h
    onto-possible p (ended e k pl) h = tt

    walk-possible : (n : ℕ) (pl : Place) → impossible pl ≡ false → PossibleAfter (walk tb wb n pl)
    unfolding walk
    walk-possible zero pl h = h
    walk-possible (suc n) pl h =
        let r = item_read tb wb pl in
        by-test (eqb r.number 0)
        (λ e. rw e (onto-possible r.pixel (walk tb wb n r.place)
        (walk-possible n r.place (given-possible pl (eqb-true r.number 0 e)))))
        (λ e. rw e tt)

    pub walk-place : (n : ℕ) (ps : List ℕ) (pl : Place) → walk tb wb n (start_place tb) ≡ gave ps pl → impossible pl ≡ false
    unfolding impossible
    walk-place n ps pl e = subst PossibleAfter e (walk-possible n (start_place tb) refl)
