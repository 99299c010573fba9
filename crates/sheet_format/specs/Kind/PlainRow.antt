-- Document 01: "Kind 3: row number, pixel count, and 2 bytes for each pixel, unpacked." Assumes nothing.
use Rattle.std.specs.Prelude.{ℕ, ◌*◌, not, List, length, take, eqb}
use Rattle.bitstream.specs.Bits.{halves_of}
use Rattle.answer.specs.Outcome.{◌or_else◌, refuse_if, Lent, room_number}
use Rattle.row_format.specs.Row.{too_many, too_high}
use Rattle.sheet_format.specs.Context.{Heading, Context}
use Rattle.sheet_format.specs.Fields.{shorter_than}
use Rattle.sheet_format.specs.Kind.{Kind, a_row}
use Rattle.sheet_format.specs.Kind.Row.{row_heading, pixel_count, row_content, row_place, given_pixels, row_body}
pub mod Laws

-- "Kind 3: 11, 14 unless the bytes are twice the count, 4"; nothing else can be left over
unfoldable pub plain_number : List ℕ → ℕ
plain_number b =
    too_many (pixel_count b)
    or_else refuse_if (not (eqb (length (row_content b)) (2 * pixel_count b))) 14
    or_else too_high (halves_of (row_content b))

-- 5 comes last
unfoldable pub plain_own : Lent → Context → List ℕ → ℕ
plain_own m c b = plain_number b or_else room_number m (2 * pixel_count b)

unfoldable pub plain_content : Context → List ℕ → List ℕ
plain_content c b = row_content b

-- ---- in writing: "11, 4"
unfoldable pub plain_given_number : Heading → Context → List ℕ → ℕ
plain_given_number h c x = too_many (length (given_pixels x)) or_else too_high (given_pixels x)

unfoldable pub plain_body : Heading → Context → List ℕ → List ℕ
plain_body h c x = row_body h x (take (2 * length (given_pixels x)) x)

abbrev pub plain_kind : Kind
plain_kind = record {
  holds = a_row;
  readable = 0;
  writable = 0;
  fixed = shorter_than 4;
  heading = row_heading;
  place = row_place;
  own = plain_own;
  stop = λ c b. 0;
  count = pixel_count;
  bits = λ c b. 0;
  content = plain_content;
  each = 2;
  given = plain_given_number;
  body = plain_body;
  given_count = λ x. length (given_pixels x);
  given_bits = λ h c x. 0;
}
