-- What a row has come to after each kind of item. Assumes nothing.
use Prim.Native.Nat.{ℕ}
use native.Mathlib.Omega.{arith}
use mathlib.Core.Path.{◌≡◌, sym, ap, ◌∙◌}
use mathlib.Core.Bool.{Bool, true, false}
use lib.IntN.{ℤ}
use Rattle.row_format.specs.Row as row
use Rattle.row_item.specs.Coded.{coded, progress, Followed}
use Rattle.row_item.specs.declared.Item.{Item}
use Rattle.row_item.specs.declared.Item.TheVariants.{Difference, BadPixel, BadBias, Escape}
use Rattle.row_item.specs.declared.Progress.{Progress}

-- ---- items of different kinds are different
abbrev kind : Item → ℕ
kind (Difference z) = 0
kind BadPixel = 1
kind BadBias = 2
kind (Escape h) = 3

other : {A : Type 0} {i j : Item} → i ≡ j → (kind i ≡ kind j → ⊥) → A
other e n = absurd (n (ap kind e))

-- ---- what a row has come to after each kind of item
past_is : (b : Bool) (h k : ℕ) → h ≡ k → ◌≡◌ {A = Progress} (record { begun = b; previous = h }) (record { begun = b; previous = k })
past_is b h k e = ap (λ (n : ℕ). record { begun = b; previous = n }) e

module _ (p : Progress) (pixel : ℕ) where
  pub after-difference : (z : ℤ) → Followed p (Difference z) pixel (record { begun = true; previous = pixel })
  after-difference z = record { next = go }
    where
      go : (s : row.State) (j : row.Item) → p ≡ progress s → Difference z ≡ coded j → pixel ≡ row.pixel_of s j
          → ◌≡◌ {A = Progress} (record { begun = true; previous = pixel }) (progress (row.after s j))
      go s (row.difference k) q e x = past_is true pixel _ x
      go s row.bad_pixel q e x = other e (λ n. omega arith)
      go s row.bad_bias q e x = other e (λ n. omega arith)
      go s (row.escape h) q e x = other e (λ n. omega arith)

  pub after-bad-pixel : Followed p BadPixel pixel p
  after-bad-pixel = record { next = go }
    where
      go : (s : row.State) (j : row.Item) → p ≡ progress s → BadPixel ≡ coded j → pixel ≡ row.pixel_of s j → p ≡ progress (row.after s j)
      go s (row.difference k) q e x = other e (λ n. omega arith)
      go s row.bad_pixel q e x = q
      go s row.bad_bias q e x = other e (λ n. omega arith)
      go s (row.escape h) q e x = other e (λ n. omega arith)

  pub after-bad-bias : Followed p BadBias pixel p
  after-bad-bias = record { next = go }
    where
      go : (s : row.State) (j : row.Item) → p ≡ progress s → BadBias ≡ coded j → pixel ≡ row.pixel_of s j → p ≡ progress (row.after s j)
      go s (row.difference k) q e x = other e (λ n. omega arith)
      go s row.bad_pixel q e x = other e (λ n. omega arith)
      go s row.bad_bias q e x = q
      go s (row.escape h) q e x = other e (λ n. omega arith)

  -- a raw height becomes previous only where no pixel has yet
  pub after-first-escape : (h : ℕ) → p.begun ≡ false → Followed p (Escape h) pixel (record { begun = true; previous = pixel })
  after-first-escape h b = record { next = go }
    where
      go : (s : row.State) (j : row.Item) → p ≡ progress s → Escape h ≡ coded j → pixel ≡ row.pixel_of s j
          → ◌≡◌ {A = Progress} (record { begun = true; previous = pixel }) (progress (row.after s j))
      go s (row.difference k) q e x = other e (λ n. omega arith)
      go s row.bad_pixel q e x = other e (λ n. omega arith)
      go s row.bad_bias q e x = other e (λ n. omega arith)
      go row.fresh (row.escape k) q e x = past_is true pixel _ x
      go (row.past v) (row.escape k) q e x = absurd (mathlib.Core.Bool.true≢false (sym (ap (λ (y : Progress). y.begun) q) ∙ b))

  pub after-later-escape : (h : ℕ) → p.begun ≡ true → Followed p (Escape h) pixel p
  after-later-escape h b = record { next = go }
    where
      go : (s : row.State) (j : row.Item) → p ≡ progress s → Escape h ≡ coded j → pixel ≡ row.pixel_of s j → p ≡ progress (row.after s j)
      go s (row.difference k) q e x = other e (λ n. omega arith)
      go s row.bad_pixel q e x = other e (λ n. omega arith)
      go s row.bad_bias q e x = other e (λ n. omega arith)
      go row.fresh (row.escape k) q e x = absurd (mathlib.Core.Bool.true≢false (sym b ∙ ap (λ (y : Progress). y.begun) q))
      go (row.past v) (row.escape k) q e x = q
