-- The one line that says how a conversion into a sheet ended, with its newline. Definitions only. Assumes nothing.
use Rattle.std.specs.Prelude.{ℕ, zero, suc, List, ◌++◌}
use Rattle.text.specs.Text.{ascii, fields}
use Rattle.text.specs.Lines.{newline, done_line, refused_line}
use Rattle.fits_format.specs.Conversion.{Conversion}
pub mod Laws

-- `refused N at row K`
abbrev pub refused_row_line : ℕ → ℕ → List ℕ
refused_row_line number row = fields (ascii "refused ") number (ascii " at row ") row ++ newline

-- by the header's number, the number of the row that is refused, and the rows before it: their count is the row's own number,
-- since rows are numbered from 0
unfoldable pub verdict_text : ℕ → ℕ → ℕ → List ℕ
verdict_text zero zero rows = done_line rows
verdict_text zero (suc e) rows = refused_row_line (suc e) rows
verdict_text (suc e) fault rows = refused_line (suc e)

abbrev pub verdict_line : Conversion → List ℕ
verdict_line c = verdict_text c.header c.fault c.rows
