-- The number of a header by its clauses: one of those of 17 decides it, whatever the others say, and where none is given it is
-- that of 11. Assumes nothing.
use Rattle.std.specs.Prelude.{ℕ, zero, suc, ◌≡◌, Bool, true, false, List, [], ◌∷◌, get_or}
use Rattle.std.proofs.Math.Path.{refl}
use Rattle.std.proofs.Common.{sym, ◌∙◌}
use Rattle.answer.specs.Outcome.{◌or_else◌, refuse_if}
use Rattle.answer.specs.Outcome.Laws.{refuse_if-zero, or_else-zero-left, or_else-zero-right}
use Rattle.row_format.specs.Lists.{any}
use Rattle.row_format.specs.Lists.Laws.{true-false}
use Rattle.fits_format.specs.Header.{axis1, axis2, above_most, header_clauses, header_number}

-- that of 11
unfoldable pub long_number : List ℕ → ℕ
long_number s = refuse_if (above_most (axis1 s)) 11 or_else refuse_if (above_most (axis2 s)) 11

some-clause : (bs : List Bool) (i : ℕ) → get_or bs i false ≡ true → any (λ (b : Bool). b) bs ≡ true
unfolding any
some-clause [] i e = true-false e refl
some-clause (true ∷ bs) i e = refl
some-clause (false ∷ bs) zero e = true-false e refl
some-clause (false ∷ bs) (suc i) e = some-clause bs i e

no-clause : (bs : List Bool) (i : ℕ) → any (λ (b : Bool). b) bs ≡ false → get_or bs i false ≡ false
unfolding any
no-clause [] i e = refl
no-clause (true ∷ bs) i e = true-false refl e
no-clause (false ∷ bs) zero e = refl
no-clause (false ∷ bs) (suc i) e = no-clause bs i e

module _ (s : List ℕ) where
  pub header_number-parts : header_number s ≡ refuse_if (any (λ (b : Bool). b) (header_clauses s)) 17 or_else long_number s
  unfolding header_number long_number
  header_number-parts = refl

  -- one is given: 17, whatever the others say
  pub header_number-17 : (i : ℕ) → get_or (header_clauses s) i false ≡ true → header_number s ≡ 17
  header_number-17 i e = header_number-parts ∙ rw (some-clause (header_clauses s) i e)

  -- accepted: none is given, nor 11
  module _ (ok : header_number s ≡ 0) where
    parts : refuse_if (any (λ (b : Bool). b) (header_clauses s)) 17 or_else long_number s ≡ 0
    parts = sym header_number-parts ∙ ok

    pub accepted-clause : (i : ℕ) → get_or (header_clauses s) i false ≡ false
    accepted-clause i =
        no-clause (header_clauses s) i
        (refuse_if-zero (any (λ (b : Bool). b) (header_clauses s)) 16
        (or_else-zero-left (refuse_if (any (λ (b : Bool). b) (header_clauses s)) 17) (long_number s) parts))

    pub accepted-long : long_number s ≡ 0
    accepted-long = or_else-zero-right (refuse_if (any (λ (b : Bool). b) (header_clauses s)) 17) (long_number s) parts
