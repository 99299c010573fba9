-- The laws of signed differences as the code holds them, in i32. Assumes nothing.
use Rattle.std.specs.Prelude.{ℕ, ◌≤◌, ◌≡◌, ℤ, pos, ◌+ℤ◌, ltb}
use Rattle.std.proofs.Common.{arith, ap, ◌∙◌, SFits, to_z, of_z, to_z-of_z}
use Rattle.std.proofs.Math.IntN.{ -ℤ-+ℤ_cancel}
use Rattle.std.specs.Int.{w32}
use Rattle.row_format.specs.Lists.Laws.{by-test}
use Rattle.row_format.specs.Table.{signed_difference}

-- ---- a count from -4093 as an i32
pub signed-fits : (k : ℕ) → k ≤ 8186 → SFits w32 (signed_difference k)
signed-fits k h = record { sfits = by-test (ltb k 4093) (λ e. rw e (omega arith)) (λ e. rw e (omega arith)) }

pub signed_back : (k : ℕ) → signed_difference k +ℤ pos 4093 ≡ pos k
signed_back k = -ℤ-+ℤ_cancel (pos k) (pos 4093)

-- a number from -4093 to 4093 is counted from -4093
pub record DifferenceCount (z : ℤ) : Type 0 where
  pub count : ℕ
  pub most : count ≤ 8186
  pub is : z ≡ signed_difference count

-- ---- the count of a signed number as the code computes it, in i32
module _ (z : ℤ) (f : SFits w32 z) (c : DifferenceCount z) where
  sum_is : to_z w32 (of_z w32 z) +ℤ pos 4093 ≡ pos c.count
  sum_is = ap (λ (k : ℤ). k +ℤ pos 4093) (to_z-of_z f ∙ c.is) ∙ signed_back c.count

  pub sum_fits : SFits w32 (to_z w32 (of_z w32 z) +ℤ pos 4093)
  sum_fits = rw sum_is (record { sfits = omega (arith, c.most) })

  pub sum-count : to_z w32 (of_z w32 (to_z w32 (of_z w32 z) +ℤ pos 4093)) ≡ pos c.count
  sum-count = to_z-of_z sum_fits ∙ sum_is
