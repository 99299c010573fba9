-- The bytes in front of a record's content. Definitions only. Assumes nothing.
use Rattle.std.specs.Prelude.{ℕ, ◌-◌, List, ◌++◌}
use Rattle.sheet_format.specs.Fields.{two_bytes, four_bytes}
pub mod Laws

-- of every record, n bytes long with its length field
unfoldable pub record_fields : ℕ → ℕ → List ℕ
record_fields code n = four_bytes (n - 4) ++ two_bytes code

-- of a row
unfoldable pub row_fields : ℕ → ℕ → ℕ → ℕ → List ℕ
row_fields code row pixels n = record_fields code n ++ two_bytes row ++ two_bytes pixels

-- of a line
unfoldable pub line_fields : ℕ → ℕ → ℕ → List ℕ
line_fields code numbers n = record_fields code n ++ two_bytes numbers
