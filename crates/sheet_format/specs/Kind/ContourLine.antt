-- Document 01: "Kind 4: count (2), then that many signed adaptive numbers, a contour line; at most 4096." A caller gives and
-- gets the numbers as four bytes each. Assumes nothing.
use Rattle.std.specs.Prelude.{ℕ, ◌*◌, List, [], ◌++◌, map, length, drop, ltb, ℤ}
use Rattle.bitstream.specs.Bits.{flat, bytes_of, words_of}
use Rattle.answer.specs.Outcome.{◌or_else◌, refuse_if, Lent, room_number}
use Rattle.row_format.specs.Row.{too_many}
use Rattle.sheet_format.specs.Context.{Heading, no_heading, Context}
use Rattle.sheet_format.specs.Fields.{shorter_than, two_at, two_bytes}
use Rattle.sheet_format.specs.Line.{Line, numbers, faulty, word_of, signed_of, read_line, line_bytes}
use Rattle.sheet_format.specs.Kind.{Kind, a_line}
use Rattle.sheet_format.specs.Kind.Row.{no_table}
pub mod Laws

abbrev pub number_count : List ℕ → ℕ
number_count b = two_at 0 b

abbrev pub line_content : List ℕ → List ℕ
line_content b = drop 2 b

abbrev pub line_of : List ℕ → Line
line_of b = read_line (number_count b) (line_content b)

-- "Kind 4: 11, then 12 or 13 at the earliest number"
abbrev pub fault_number : Line → ℕ
fault_number (numbers vs u) = 0
fault_number (faulty e) = e

abbrev pub bytes_of_line : Line → ℕ
bytes_of_line (numbers vs u) = u
bytes_of_line (faulty e) = 0

-- then "leftover": bytes after the last number
unfoldable pub line_number : List ℕ → ℕ
line_number b =
    too_many (number_count b)
    or_else fault_number (line_of b)
    or_else refuse_if (ltb (bytes_of_line (line_of b)) (length (line_content b))) 14

-- 5 comes last
unfoldable pub line_own : Lent → Context → List ℕ → ℕ
line_own m c b = line_number b or_else room_number m (4 * number_count b)

abbrev pub number_bytes : Line → List ℕ
number_bytes (numbers vs u) = bytes_of (4 * length vs) (flat 32 (map word_of vs))
number_bytes (faulty e) = []

unfoldable pub read_numbers : Context → List ℕ → List ℕ
read_numbers c b = number_bytes (line_of b)

-- "no table first"
unfoldable pub line_place : Context → Heading → ℕ
line_place c h = no_table c

-- ---- in writing; an incomplete number at the end counts for nothing
abbrev pub given_numbers : List ℕ → List ℤ
given_numbers x = map signed_of (words_of x)

unfoldable pub line_given_number : Heading → Context → List ℕ → ℕ
line_given_number h c x = too_many (length (given_numbers x))

unfoldable pub line_body : Heading → Context → List ℕ → List ℕ
line_body h c x = two_bytes (length (given_numbers x)) ++ line_bytes (given_numbers x)

abbrev pub line_kind : Kind
line_kind = record {
  holds = a_line;
  readable = 0;
  writable = 0;
  fixed = shorter_than 2;
  heading = λ b. no_heading;
  place = line_place;
  own = line_own;
  stop = λ c b. 0;
  count = number_count;
  bits = λ c b. 0;
  content = read_numbers;
  each = 4;
  given = line_given_number;
  body = line_body;
  given_count = λ x. length (given_numbers x);
  given_bits = λ h c x. 0;
}
