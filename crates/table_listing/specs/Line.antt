-- The line of a string: its name and its bits. Definitions only; their laws are in Line/Laws.antt. Assumes nothing.
use Rattle.std.specs.Prelude.{ℕ, zero, suc, List, ◌++◌, map}
use Rattle.text.specs.Text.{ascii, digit, integer}
use Rattle.row_format.specs.Table.{codeword_at, signed_difference, entry_difference}
pub mod Laws

-- "`raw 10`, `bad-pixel 110`, `bad-bias 111`; an entry is named by its step". A string is at the place 0 raw, 1 bad pixel,
-- 2 bad bias, 3 + i entry i
unfoldable pub name : List ℕ → ℕ → List ℕ
name t zero = ascii "raw"
name t (suc zero) = ascii "bad-pixel"
name t (suc (suc zero)) = ascii "bad-bias"
name t (suc (suc (suc i))) = integer (signed_difference (entry_difference t i))

unfoldable pub line : List ℕ → ℕ → List ℕ
line t p = name t p ++ ascii " " ++ map digit (codeword_at t p) ++ ascii "\n"
