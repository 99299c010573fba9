-- Document 01, "A sheet": the parts of a record, and the number that a record is refused with. r is the sheet's bytes from
-- the record's place on, c what the sheet holds so far. Every definition is total. Definitions only. Assumes nothing.
use Rattle.std.specs.Prelude.{ℕ, ◌+◌, ◌-◌, cond, List, length, take, drop, ltb}
use Rattle.bitstream.specs.Bits.{number_of}
use Rattle.answer.specs.Outcome.{◌or_else◌, refuse_if, Lent}
use Rattle.sheet_format.specs.Context.{Context}
use Rattle.sheet_format.specs.Fields.{two_at}
use Rattle.sheet_format.specs.Kind.{Kind}
use Rattle.sheet_format.specs.Kinds.{kind_of}
pub mod Laws

-- ---- the parts of a record: "a 4-byte little-endian length that counts what follows it, a two-byte little-endian kind, a
-- body"
abbrev pub length_field : List ℕ → ℕ
length_field r = number_of (take 4 r)

abbrev pub kind_field : List ℕ → ℕ
kind_field r = two_at 4 r

abbrev pub body_of : List ℕ → List ℕ
body_of r = take (length_field r - 2) (drop 6 r)

-- ---- which records are refused, and by which number, in document 01's order
-- "length (fewer than four bytes for it, outside its limits, or more than the bytes left; all 14)"; "2 to 32,774"
unfoldable pub length_number : List ℕ → ℕ
length_number r =
    refuse_if (ltb (length r) 4) 14
    or_else refuse_if (ltb (length_field r) 2) 14
    or_else refuse_if (ltb 32774 (length_field r)) 14
    or_else refuse_if (ltb (length r) (4 + length_field r)) 14

-- after the kind: "fixed fields .., place (16), the body's own refusals, leftover"
unfoldable pub content_number : Kind → Lent → Context → List ℕ → ℕ
content_number k m c b = k.fixed b or_else k.place c (k.heading b) or_else k.own m c b

unfoldable pub record_number : Lent → Context → List ℕ → ℕ
record_number m c r =
    length_number r
    or_else (kind_of (kind_field r)).readable
    or_else content_number (kind_of (kind_field r)) m c (body_of r)

-- for a reader that streams a sheet: the bytes that it has to hold to judge the record at r, whatever stands there. Four, and
-- where the length that they say is within its limits as many more
unfoldable pub record_span : List ℕ → ℕ
record_span r = cond (ltb (length_field r) 2) 4 (cond (ltb 32774 (length_field r)) 4 (4 + length_field r))
