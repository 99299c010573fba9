-- How a line's record stands, and how many numbers are refused. Assumes nothing.
use Prim.Native.Nat.{ℕ, ◌+◌, ◌/◌, ◌≤◌, ◌<◌}
use native.Mathlib.Omega.{arith}
use mathlib.Core.Path.{◌≡◌, refl}
use mathlib.Core.List.{List}
use lib.ListN.{length}
use borrow.Author.Tests.{lt-ltb, le-ltb}
use Rattle.row_format.specs.Row.Laws.{too_many-zero}
use Rattle.sheet_format.specs.Context.{Heading, Context}
use Rattle.sheet_format.specs.Line.{line_bytes}
use Rattle.sheet_format.specs.Line.Laws.{length-line_bytes}
use Rattle.sheet_format.specs.Kind.ContourLine.{given_numbers, line_given_number, line_body}
use Rattle.sheet_writer.specs.Fields.{line_fields}
use Rattle.sheet_writer.specs.Fields.Laws.{length-line_fields, line-fields}
use Rattle.sheet_writer.proofs.Frame.{Frame}
use Rattle.sheet_writer.proofs.number.Laws.{length-given}

module _ (h : Heading) (c : Context) (x : List ℕ) where
  -- ---- how the record stands
  pub line_frame :
      Frame 4 h c x (line_fields 4 (length x / 4) (8 + length (line_bytes (given_numbers x)))) (line_bytes (given_numbers x)) 8
  unfolding line_body
  line_frame = record {
    known = refl;
    bytes = rw (length-given x) (line-fields 4 (length x / 4) (line_bytes (given_numbers x)));
    fields = length-line_fields 4 (length x / 4) (8 + length (line_bytes (given_numbers x)));
  }

  -- ---- its numbers
  pub line-many : 4096 < length x / 4 → 11 ≡ line_given_number h c x
  unfolding line_given_number
  line-many many = rw (length-given x, lt-ltb 4096 (length x / 4) many)

  pub line-right : length x / 4 ≤ 4096 → 0 ≡ line_given_number h c x
  unfolding line_given_number
  line-right few = rw (length-given x, le-ltb 4096 (length x / 4) few)

  pub line-few : line_given_number h c x ≡ 0 → length x / 4 ≤ 4096
  unfolding line_given_number
  line-few e = omega (arith, length-given x, too_many-zero (length (given_numbers x)) e)

pub line-most : (x : List ℕ) → length x / 4 ≤ 4096 → length (line_bytes (given_numbers x)) ≤ 20480
line-most x few = omega (arith, length-given x, length-line_bytes (given_numbers x))
