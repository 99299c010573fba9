-- How the record of a row as it is stands, and which pixels are refused. Assumes nothing.
use Prim.Native.Nat.{ℕ, ◌+◌, ◌*◌, ◌/◌, ◌≤◌, ◌<◌}
use native.Mathlib.Omega.{arith}
use mathlib.Core.Path.{◌≡◌, refl, ◌∙◌}
use mathlib.Core.Bool.{true, false}
use mathlib.Core.List.{List}
use lib.ListN.{length, take}
use lib.Seq.{length-take-le}
use lib.Dec.{ltb}
use borrow.Author.Tests.{lt-ltb, le-ltb}
use Rattle.answer.specs.Outcome.Laws.{or_else-zero-left}
use Rattle.row_format.specs.Lists.{any}
use Rattle.row_format.specs.Row.{too_many}
use Rattle.row_format.specs.Row.Laws.{too_many-zero}
use Rattle.row_pixels.specs.Laws.{length-halves}
use Rattle.sheet_format.specs.Context.{Heading, Context}
use Rattle.sheet_format.specs.Kind.Row.{given_pixels}
use Rattle.sheet_format.specs.Kind.PlainRow.{plain_given_number, plain_body}
use Rattle.sheet_writer.specs.Fields.{row_fields}
use Rattle.sheet_writer.specs.Fields.Laws.{length-row_fields, row-fields}
use Rattle.sheet_writer.proofs.Frame.{Frame}

-- ---- how the record stands
abbrev pub whole_pixels : List ℕ → List ℕ
whole_pixels x = take (2 * (length x / 2)) x

pub length-whole_pixels : (x : List ℕ) → length (whole_pixels x) ≡ 2 * (length x / 2)
length-whole_pixels x = length-take-le (2 * (length x / 2)) x (omega arith)

module _ (h : Heading) (c : Context) (x : List ℕ) where
  pub plain-frame : Frame 3 h c x (row_fields 3 h.row (length x / 2) (10 + 2 * (length x / 2))) (whole_pixels x) 10
  unfolding plain_body
  plain-frame = record {
    known = refl;
    bytes = rw (length-halves x) (row-fields 3 h.row (length x / 2) (whole_pixels x) ∙ rw (length-whole_pixels x));
    fields = length-row_fields 3 h.row (length x / 2) (10 + 2 * (length x / 2));
  }

  -- ---- its pixels
  pub plain-many : 4096 < length x / 2 → 11 ≡ plain_given_number h c x
  unfolding plain_given_number
  plain-many many = rw (length-halves x, lt-ltb 4096 (length x / 2) many)

  module _ (few : length x / 2 ≤ 4096) where
    pub plain-high : any (ltb 4095) (given_pixels x) ≡ true → 4 ≡ plain_given_number h c x
    unfolding plain_given_number
    plain-high e = rw (length-halves x, le-ltb 4096 (length x / 2) few, e)

    pub plain-right : any (ltb 4095) (given_pixels x) ≡ false → 0 ≡ plain_given_number h c x
    unfolding plain_given_number
    plain-right e = rw (length-halves x, le-ltb 4096 (length x / 2) few, e)

  pub plain-few : plain_given_number h c x ≡ 0 → length x / 2 ≤ 4096
  unfolding plain_given_number
  plain-few e =
      let n = length (given_pixels x) in
      omega (arith, length-halves x, too_many-zero n (or_else-zero-left (too_many n) _ e))
