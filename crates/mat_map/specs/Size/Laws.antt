-- The laws of the group sizes: 4, 16, or refused. Assumes nothing.
use Rattle.std.specs.Prelude.{ℕ, ◌≤◌, ◌≡◌, refl, Bool, true, false, not, ◌||◌, cond, eqb}
use Rattle.std.proofs.Common.{arith}
use borrow.Author.Tests.{eq-eqb, ne_eqb}
use Rattle.answer.specs.Outcome.{refuse_if}
use Rattle.map_format.specs.Calls.{position_bits, size_number}
use Rattle.mat_map.specs.Size.{bits_or_none}

-- ---- by the two tests
abbrev bits : Bool → Bool → ℕ
bits four sixteen = cond four 2 (cond sixteen 4 0)

none-refused : (a b : Bool) → bits a b ≡ 0 → refuse_if (not (a || b)) 14 ≡ 14
none-refused true b e = absurd (omega arith)
none-refused false true e = absurd (omega arith)
none-refused false false e = refl

some-passes : (a b : Bool) → (bits a b ≡ 0 → ⊥) → refuse_if (not (a || b)) 14 ≡ 0
some-passes true b h = refl
some-passes false true h = refl
some-passes false false h = absurd (h refl)

some_same : (a b : Bool) → (bits a b ≡ 0 → ⊥) → bits a b ≡ cond a 2 4
some_same true b h = refl
some_same false true h = refl
some_same false false h = absurd (h refl)

some-least : (a b : Bool) → (bits a b ≡ 0 → ⊥) → 2 ≤ bits a b
some-least true b h = omega arith
some-least false true h = omega arith
some-least false false h = absurd (h refl)

some-most : (a b : Bool) → bits a b ≤ 4
some-most true b = omega arith
some-most false true = omega arith
some-most false false = omega arith

module _ (g : ℕ) where
  -- ---- the code's tests
  pub bits-four : g ≡ 4 → 2 ≡ bits_or_none g
  unfolding bits_or_none
  bits-four e = rw (eq-eqb g 4 e)

  pub bits-sixteen : (g ≡ 4 → ⊥) → g ≡ 16 → 4 ≡ bits_or_none g
  unfolding bits_or_none
  bits-sixteen h e = rw (ne_eqb g 4 h, eq-eqb g 16 e)

  pub bits_none : (g ≡ 4 → ⊥) → (g ≡ 16 → ⊥) → 0 ≡ bits_or_none g
  unfolding bits_or_none
  bits_none h i = rw (ne_eqb g 4 h, ne_eqb g 16 i)

  -- ---- and what they come to
  pub size-refused : bits_or_none g ≡ 0 → size_number g ≡ 14
  unfolding bits_or_none size_number
  size-refused e = none-refused (eqb g 4) (eqb g 16) e

  module _ (some : bits_or_none g ≡ 0 → ⊥) where
    pub size-passes : size_number g ≡ 0
    unfolding bits_or_none size_number
    size-passes = some-passes (eqb g 4) (eqb g 16) some

    pub size-bits : bits_or_none g ≡ position_bits g
    unfolding bits_or_none
    size-bits = some_same (eqb g 4) (eqb g 16) some

    pub size-least : 2 ≤ bits_or_none g
    unfolding bits_or_none
    size-least = some-least (eqb g 4) (eqb g 16) some

  pub size-most : bits_or_none g ≤ 4
  unfolding bits_or_none
  size-most = some-most (eqb g 4) (eqb g 16)
