-- Document 01: "Kind 1: a table". "The one table comes first." Assumes nothing.
use Rattle.std.specs.Prelude.{ℕ, ◌/◌, not, List, [], length, eqb}
use Rattle.answer.specs.Outcome.{Lent, refuse_if}
use Rattle.row_format.specs.Table.{table_number}
use Rattle.sheet_format.specs.Context.{Heading, no_heading, Context}
use Rattle.sheet_format.specs.Fields.{not_words}
use Rattle.sheet_format.specs.Kind.{Kind, a_table}
pub mod Laws

unfoldable pub table_place : Context → Heading → ℕ
table_place c h = refuse_if (not (eqb (length c.tables) 0)) 16

-- those of the table check; a table with extra words is refused by it, and nothing is left over
unfoldable pub table_own : Lent → Context → List ℕ → ℕ
table_own m c b = table_number b

-- a table is the record's own bytes, and nothing is made of it
abbrev pub table_kind : Kind
table_kind = record {
  holds = a_table;
  readable = 0;
  writable = 0;
  fixed = not_words;
  heading = λ b. no_heading;
  place = table_place;
  own = table_own;
  stop = λ c b. 0;
  count = λ b. length b / 4;
  bits = λ c b. 0;
  content = λ c b. [];
  each = 0;
  given = λ h c x. table_number x;
  body = λ h c x. x;
  given_count = λ x. length x / 4;
  given_bits = λ h c x. 0;
}
