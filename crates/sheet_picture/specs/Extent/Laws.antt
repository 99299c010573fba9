-- The laws of a sheet's extent. Assumes nothing.
use Rattle.std.specs.Prelude.{ℕ, ◌+◌, ◌≤◌, ◌<◌, ◌≡◌, List, eqb}
use Rattle.std.proofs.Math.Bool.{or-true}
use borrow.Author.Tests.{eq-eqb, ne_eqb, lt-ltb, le-ltb}
use Rattle.sheet_format.specs.Fields.{two_at}
use Rattle.sheet_format.specs.Record.{length_field, kind_field}
use Rattle.sheet_picture.specs.Extent.{row_claimed}

-- ---- what a record behind a fault claims
pub claimed-short : (r : List ℕ) → length_field r < 4 → row_claimed r ≡ 0
unfolding row_claimed
claimed-short r short = rw (lt-ltb (length_field r) 4 short)

module _ (r : List ℕ) (long : 4 ≤ length_field r) where
  pub claimed-two : kind_field r ≡ 2 → row_claimed r ≡ two_at 6 r + 1
  unfolding row_claimed
  claimed-two e = rw (le-ltb (length_field r) 4 long, eq-eqb (kind_field r) 2 e)

  pub claimed-three : kind_field r ≡ 3 → row_claimed r ≡ two_at 6 r + 1
  unfolding row_claimed
  claimed-three e = rw (le-ltb (length_field r) 4 long, eq-eqb (kind_field r) 3 e, or-true (eqb (kind_field r) 2))

  pub claimed-none : (kind_field r ≡ 2 → ⊥) → (kind_field r ≡ 3 → ⊥) → row_claimed r ≡ 0
  unfolding row_claimed
  claimed-none two three = rw (le-ltb (length_field r) 4 long, ne_eqb (kind_field r) 2 two, ne_eqb (kind_field r) 3 three)
