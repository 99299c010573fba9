-- The laws of the choice of an item: the ways out of `item_for`. Assumes nothing.
use Prim.Native.Nat.{ℕ, ◌+◌, ◌-◌, ◌≤◌, ◌<◌}
use native.Mathlib.Omega.{arith}
use mathlib.Core.Path.{◌≡◌, refl, sym, ap, ◌∙◌}
use mathlib.Core.Bool.{Bool, true, false}
use mathlib.Core.List.{List}
use lib.IntN.{ℤ}
use lib.Dec.{ltb}
use mir.Val.{to_z, of_z}
use mir.Syntax.{w32}
use mir.Facts.{to_z-of_z}
use borrow.Author.Tests.{ltb-true, ltb-false, le-leb, lt-leb, lt-ltb, le-ltb, eq-eqb, ne_eqb}
use Rattle.row_format.specs.Lists.Laws.{by-test, true-false}
use Rattle.row_format.specs.Table.{low_limit, table_size, signed_difference}
use Rattle.row_format.specs.Row.{State, fresh, past, previous, difference_to, by_difference, item_for}
use Rattle.row_format.specs.Row.Laws.{by_difference-first, by_difference-past, by_difference-lacks}
use Rattle.code_table.specs.SignedLaws.{signed-fits}
use Rattle.row_item.specs.declared.Item.TheVariants.{Difference, BadPixel, BadBias, Escape}
use Rattle.row_item.specs.declared.Progress.{Progress}
use Rattle.row_item.specs.Coded.{progress}
use Rattle.row_packer.specs.Header.{HeaderOf}
use Rattle.row_packer.specs.Item.{Chosen, Usable}
use Rattle.row_packer.specs.declared.header.Header.{Header}

pub previous-progress : (s : State) → (progress s).previous ≡ previous s
previous-progress fresh = refl
previous-progress (past h) = refl

-- whether a height has come yet, as the code holds it
begun-is : (p : Progress) (s : State) {b : Bool} → p ≡ progress s → p.begun ≡ b → (progress s).begun ≡ b
begun-is p s q e = sym (ap (λ (x : Progress). x.begun) q) ∙ e

begun-false : (s : State) → (progress s).begun ≡ false → s ≡ fresh
begun-false fresh e = refl
begun-false (past h) e = true-false refl e

-- below a sum, and below what is left of it
ltb-sub : (k a b : ℕ) → a ≤ k → ltb k (a + b) ≡ ltb (k - a) b
ltb-sub k a b least = by-test (ltb k (a + b))
    (λ e. rw (e, lt-ltb (k - a) b (omega (arith, ltb-true k (a + b) e))))
    (λ e. rw (e, le-ltb (k - a) b (omega (arith, ltb-false k (a + b) e))))

-- the difference as the code computes it, counted from -4093
abbrev pub counted : Progress → ℕ → ℕ
counted p pixel = pixel + 4093 - p.previous

counted_is : (p : Progress) (s : State) (pixel : ℕ) → p ≡ progress s → counted p pixel ≡ difference_to s pixel
counted_is p s pixel e = ap (λ (k : ℕ). pixel + 4093 - k) (ap (λ (x : Progress). x.previous) e ∙ previous-progress s)

module _ {h : Header} {p : Progress} where
  -- of the table's differences all may be used once a height has come, and none before
  pub usable-all : p.begun ≡ true → Usable h p h.size
  usable-all begun = record { by = λ t s pixel hd q low. later t s pixel hd (begun-is p s q begun) low }
    where
      later : (t : List ℕ) (s : State) (pixel : ℕ) → HeaderOf t h → (progress s).begun ≡ true → low_limit t ≤ difference_to s pixel
          → by_difference t s pixel ≡ ltb (difference_to s pixel - low_limit t) h.size
      later t fresh pixel hd e low = true-false e refl
      later t (past v) pixel hd e low =
          let k = difference_to (past v) pixel in
          rw (by_difference-past t v pixel, le-leb (low_limit t) k low, hd.size) (ltb-sub k (low_limit t) (table_size t) low)

  pub usable-none : p.begun ≡ false → Usable h p 0
  usable-none none = record {
    by = λ t s pixel hd q low.
        by_difference-first t s pixel (begun-false s (begun-is p s q none))
        ∙ sym (le-ltb (difference_to s pixel - low_limit t) 0 (omega arith));
  }

module _ {h : Header} {p : Progress} {pixel : ℕ} where
  pub chosen-bad-pixel : pixel ≡ 4095 → Chosen h p pixel BadPixel
  unfolding item_for
  chosen-bad-pixel e = record { item = λ t s hd q. rw (eq-eqb pixel 4095 e) }

  pub chosen-bad-bias : (pixel ≡ 4095 → ⊥) → pixel ≡ 4094 → Chosen h p pixel BadBias
  unfolding item_for
  chosen-bad-bias n e = record { item = λ t s hd q. rw (ne_eqb pixel 4095 n, eq-eqb pixel 4094 e) }

  -- a height
  module _ (n : pixel ≡ 4095 → ⊥) (m : pixel ≡ 4094 → ⊥) where
    -- is the height itself wherever packing does not write it by its difference
    chosen-escape : ((t : List ℕ) (s : State) → HeaderOf t h → p ≡ progress s → by_difference t s pixel ≡ false)
        → Chosen h p pixel (Escape pixel)
    unfolding item_for
    chosen-escape raw = record { item = λ t s hd q. rw (ne_eqb pixel 4095 n, ne_eqb pixel 4094 m, raw t s hd q) }

    chosen-has : ((t : List ℕ) (s : State) → HeaderOf t h → p ≡ progress s → by_difference t s pixel ≡ true)
        → Chosen h p pixel (Difference (signed_difference (counted p pixel)))
    unfolding item_for
    chosen-has by =
        record { item = λ t s hd q. rw (counted_is p s pixel q, ne_eqb pixel 4095 n, ne_eqb pixel 4094 m, by t s hd q) }

    -- "If not": the difference is below those of the table
    pub chosen-below : counted p pixel < h.low → Chosen h p pixel (Escape pixel)
    chosen-below low = chosen-escape (λ t s hd q.
        let k = difference_to s pixel in
        by_difference-lacks t s pixel (rw (lt-leb (low_limit t) k (omega (arith, counted_is p s pixel q)))))

    -- it is not, and u of those that the table has may be used
    module _ {u : ℕ} (usable : Usable h p u) (low : h.low ≤ counted p pixel) where
      written : (t : List ℕ) (s : State) → HeaderOf t h → p ≡ progress s
          → by_difference t s pixel ≡ ltb (counted p pixel - h.low) u
      written t s hd q =
          let same = counted_is p s pixel q in
          usable.by t s pixel hd q (omega arith) ∙ rw (same, hd.low)

      -- it is one of them: z is it, as the code computes it in i32
      pub chosen-difference : {z : ℤ} → z ≡ signed_difference (counted p pixel) → pixel ≤ 4095
          → counted p pixel - h.low < u → Chosen h p pixel (Difference (to_z w32 (of_z w32 z)))
      chosen-difference {z} e most few =
          let k = counted p pixel in
          rw (e, to_z-of_z (signed-fits k (omega arith)))
          (chosen-has (λ t s hd q. written t s hd q ∙ lt-ltb (k - h.low) u few))

      -- it is none of them
      pub chosen-above : u ≤ counted p pixel - h.low → Chosen h p pixel (Escape pixel)
      chosen-above many = chosen-escape (λ t s hd q. written t s hd q ∙ le-ltb (counted p pixel - h.low) u many)
