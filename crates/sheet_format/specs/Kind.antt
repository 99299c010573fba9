-- Document 01, "A sheet": a kind of record, as its rules. b is a record's body, x the content that the record writer is given.
-- The kinds stand one by one in Kind/. Assumes nothing.
use Rattle.std.specs.Prelude.{ℕ, ◌+◌, ◌*◌, Bool, true, false, List, [], ◌∷◌, ◌++◌, take}
use Rattle.answer.specs.Outcome.{Lent}
use Rattle.sheet_format.specs.Context.{Heading, no_heading, Context}
pub mod Table
pub mod Row
pub mod PackedRow
pub mod PlainRow
pub mod ContourLine
pub mod Lawful

-- what a record of a kind holds
pub data Payload : Type 0 where
  a_table : Payload
  a_row : Payload
  a_line : Payload
  no_payload : Payload

abbrev pub is_table : Payload → Bool
is_table a_table = true
is_table a_row = false
is_table a_line = false
is_table no_payload = false

abbrev pub is_row : Payload → Bool
is_row a_table = false
is_row a_row = true
is_row a_line = false
is_row no_payload = false

pub record Kind : Type 0 where
  pub holds : Payload
  -- 0, or the number that refuses the kind in reading, and in writing
  pub readable : ℕ
  pub writable : ℕ
  -- ---- reading
  -- 14: "fixed fields (row number, counts; a table has none) missing or kinds 1 and 2 not whole words"
  pub fixed : List ℕ → ℕ
  pub heading : List ℕ → Heading
  -- 16: "place"; asked in writing too
  pub place : Context → Heading → ℕ
  -- "the body's own refusals, leftover", and 5 where memory is lent for the content
  pub own : Lent → Context → List ℕ → ℕ
  -- the bit place where reading the body stops, from the row's first word; 0 where no bits are read
  pub stop : Context → List ℕ → ℕ
  -- the words of a table, the pixels of a row, the numbers of a line; the bits of a packed row
  pub count : List ℕ → ℕ
  pub bits : Context → List ℕ → ℕ
  -- the content that is read, and its bytes for each one counted
  pub content : Context → List ℕ → List ℕ
  pub each : ℕ
  -- ---- writing
  -- "then 1, 2, 3 for the table written or packed under, then 11, 4"
  pub given : Heading → Context → List ℕ → ℕ
  pub body : Heading → Context → List ℕ → List ℕ
  -- how many are given, and the bits that they take
  pub given_count : List ℕ → ℕ
  pub given_bits : Heading → Context → List ℕ → ℕ

-- "15: unknown kind"
abbrev pub unknown : Kind
unknown = record {
  holds = no_payload;
  readable = 15;
  writable = 15;
  fixed = λ b. 0;
  heading = λ b. no_heading;
  place = λ c h. 0;
  own = λ m c b. 0;
  stop = λ c b. 0;
  count = λ b. 0;
  bits = λ c b. 0;
  content = λ c b. [];
  each = 0;
  given = λ h c x. 0;
  body = λ h c x. [];
  given_count = λ x. 0;
  given_bits = λ h c x. 0;
}

-- what the sheet holds after an accepted or written record, by its heading and its body or content
abbrev pub after_record : Payload → Heading → List ℕ → Context → Context
after_record a_table h b c = record { tables = c.tables ++ (b ∷ []); least = c.least }
after_record a_row h b c = record { tables = c.tables; least = h.row + 1 }
after_record a_line h b c = c
after_record no_payload h b c = c

-- the table that a caller lends for the records after it
abbrev pub table_kept : Payload → List ℕ → List ℕ → List ℕ
table_kept a_table tb b = b
table_kept a_row tb b = tb
table_kept a_line tb b = tb
table_kept no_payload tb b = tb

-- the heading that a record keeps of the one that is given
abbrev pub heading_kept : Payload → Heading → Heading
heading_kept a_table h = no_heading
heading_kept a_row h = h
heading_kept a_line h = no_heading
heading_kept no_payload h = no_heading

-- the content that was given, but for an incomplete pixel or number at its end
abbrev pub content_given : Kind → List ℕ → List ℕ
content_given k x = take (k.each * k.given_count x) x
