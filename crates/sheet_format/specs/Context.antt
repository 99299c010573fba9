-- What a sheet holds so far, and what stands in front of a row. Assumes nothing.
use Rattle.std.specs.Prelude.{ℕ, List, [], length, get_or, replicate}
use Rattle.sheet_format.specs.declared.SheetState.{SheetState}
pub mod Laws

-- a row's heading: its number
pub record Heading : Type 0 where
  pub row : ℕ

-- what a record without a heading has
abbrev pub no_heading : Heading
no_heading = record { row = 0 }

-- the bytes of the tables so far, in their order, and the least row number that may come next
pub record Context : Type 0 where
  pub tables : List (List ℕ)
  pub least : ℕ

abbrev pub new_sheet : Context
new_sheet = record { tables = []; least = 0 }

-- the table that a row uses: the sheet's one table, which comes first
abbrev pub table_for : Context → Heading → List ℕ
table_for c h = get_or c.tables 0 []

-- ---- by value
-- what a refusal has in a state's place: "zero for every count and value"
abbrev pub no_state : SheetState
no_state = record { has_table = 0; least_row = 0 }

-- what a caller keeps of it
abbrev pub state_of : Context → SheetState
state_of c = record { has_table = length c.tables; least_row = c.least }

-- what the state and the one table that is lent say of it: each table counted is the one that is lent
abbrev pub context_of : List ℕ → SheetState → Context
context_of tb st = record { tables = replicate st.has_table tb; least = st.least_row }
