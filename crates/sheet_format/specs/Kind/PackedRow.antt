-- Document 01: "Kind 2: row number (2 bytes), pixel count (2), packed words." Assumes nothing.
use Rattle.std.specs.Prelude.{ℕ, ◌*◌, List, length, ltb}
use Rattle.bitstream.specs.Bits.{words_of, words_for}
use Rattle.answer.specs.Outcome.{◌or_else◌, refuse_if, Lent, nothing}
use Rattle.row_format.specs.Table.{table_number}
use Rattle.row_format.specs.Row.{row_bits, row_bytes, pixel_bytes, too_many, too_high}
use Rattle.row_format.specs.Reading.{Run, run_number, run_place, bits_of_run, pixels_of_run, row_reading}
use Rattle.sheet_format.specs.Context.{Heading, Context, table_for}
use Rattle.sheet_format.specs.Fields.{shorter_than, not_words}
use Rattle.sheet_format.specs.Kind.{Kind, a_row}
use Rattle.sheet_format.specs.Kind.Row.{row_heading, pixel_count, row_content, row_place, given_pixels, row_body}
pub mod Laws

-- the row's words are read as unpacking reads them, under the table that the row uses
unfoldable pub packed_reading : Lent → Context → List ℕ → Run
packed_reading m c b = row_reading m (table_for c (row_heading b)) (pixel_count b) (row_content b)

-- "leftover": words after the last used one
unfoldable pub packed_leftover : Context → List ℕ → ℕ
packed_leftover c b = refuse_if (ltb (4 * words_for (bits_of_run (packed_reading nothing c b))) (length (row_content b))) 14

-- "6 to 10", 1, 2, 3, 11 and 5 in unpacking's order, then leftover
unfoldable pub packed_own : Lent → Context → List ℕ → ℕ
packed_own m c b = run_number (packed_reading m c b) or_else packed_leftover c b

-- where its reading stops
unfoldable pub packed_stop : Context → List ℕ → ℕ
packed_stop c b = run_place (packed_reading nothing c b)

unfoldable pub packed_bits : Context → List ℕ → ℕ
packed_bits c b = bits_of_run (packed_reading nothing c b)

unfoldable pub packed_content : Context → List ℕ → List ℕ
packed_content c b = pixel_bytes (pixels_of_run (packed_reading nothing c b))

-- ---- in writing
-- "1, 2, 3 for the table .. packed under, then 11, 4"
unfoldable pub packed_given_number : Heading → Context → List ℕ → ℕ
packed_given_number h c x = table_number (table_for c h) or_else too_many (length (given_pixels x)) or_else too_high (given_pixels x)

-- "for kind 2 it packs the pixels under the sheet's table"
unfoldable pub packed_body : Heading → Context → List ℕ → List ℕ
packed_body h c x = row_body h x (row_bytes (words_of (table_for c h)) (given_pixels x))

unfoldable pub packed_takes : Heading → Context → List ℕ → ℕ
packed_takes h c x = length (row_bits (words_of (table_for c h)) (given_pixels x))

abbrev pub packed_kind : Kind
packed_kind = record {
  holds = a_row;
  readable = 0;
  writable = 0;
  fixed = λ b. shorter_than 4 b or_else not_words b;
  heading = row_heading;
  place = row_place;
  own = packed_own;
  stop = packed_stop;
  count = pixel_count;
  bits = packed_bits;
  content = packed_content;
  each = 2;
  given = packed_given_number;
  body = packed_body;
  given_count = λ x. length (given_pixels x);
  given_bits = packed_takes;
}
