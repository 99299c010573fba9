-- The lines of the sheet lister, as document 01 and document 02's ticket 2 have them, each with its newline. Definitions only.
-- Assumes nothing.
use Rattle.std.specs.Prelude.{ℕ, List, ◌++◌}
use Rattle.text.specs.Text.{ascii, field, fields}
pub mod Cases

abbrev pub newline : List ℕ
newline = ascii "\n"

-- `table 1 low 3837 size 512 worst 14`
abbrev pub table_line : ℕ → ℕ → ℕ → ℕ → List ℕ
table_line id low size worst =
    fields (ascii "table ") id (ascii " low ") low ++ (fields (ascii " size ") size (ascii " worst ") worst ++ newline)

-- `row 0 pixels 2 bits 17 words 1`: a row of kind 2
abbrev pub packed_line : ℕ → ℕ → ℕ → ℕ → List ℕ
packed_line row pixels bits words =
    fields (ascii "row ") row (ascii " pixels ") pixels ++ (fields (ascii " bits ") bits (ascii " words ") words ++ newline)

-- `row R pixels P plain`: a row of kind 3
abbrev pub plain_line : ℕ → ℕ → List ℕ
plain_line row pixels = fields (ascii "row ") row (ascii " pixels ") pixels ++ ascii " plain\n"

-- `line numbers C`: a contour line
abbrev pub contour_line : ℕ → List ℕ
contour_line numbers = field (ascii "line numbers ") numbers ++ newline

-- `done rows 2`
abbrev pub done_line : ℕ → List ℕ
done_line rows = field (ascii "done rows ") rows ++ newline

-- `refused N at record K`
abbrev pub refused_at_line : ℕ → ℕ → List ℕ
refused_at_line number index = fields (ascii "refused ") number (ascii " at record ") index ++ newline

-- `refused N at record K bit B`
abbrev pub refused_bit_line : ℕ → ℕ → ℕ → List ℕ
refused_bit_line number index bit =
    fields (ascii "refused ") number (ascii " at record ") index ++ (field (ascii " bit ") bit ++ newline)

-- `refused N`, which the table lister prints
abbrev pub refused_line : ℕ → List ℕ
refused_line number = field (ascii "refused ") number ++ newline
