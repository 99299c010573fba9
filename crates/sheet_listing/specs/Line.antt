-- Document 01, and document 02's ticket 2: what the sheet lister prints of an accepted record, and its last line. Definitions
-- only; their laws are in Line/Laws.antt. Assumes nothing.
use Rattle.std.specs.Prelude.{ℕ, zero, suc, cond, List, [], drop}
use Rattle.bitstream.specs.Bits.{words_of}
use Rattle.row_format.specs.Place.{has_place}
use Rattle.row_format.specs.Table.{table_id, low_limit, table_size, max_item_bits}
use Rattle.sheet_format.specs.declared.RecordRead.{RecordRead}
use Rattle.sheet_format.specs.Sheet.{SheetRecord}
use Rattle.text.specs.Lines.{table_line, packed_line, plain_line, contour_line, done_line, refused_at_line, refused_bit_line}
pub mod Laws

-- `table ID low L size S worst M`, of a table's words
abbrev pub table_text : List ℕ → List ℕ
table_text t = table_line (table_id t) (low_limit t) (table_size t) (max_item_bits t)

-- the line of a record of a kind that was answered so and has the body b
unfoldable pub line_for : ℕ → RecordRead → List ℕ → List ℕ
line_for zero a b = []
line_for (suc zero) a b = table_text (words_of b)
line_for (suc (suc zero)) a b = packed_line a.row a.count a.bits a.words
line_for (suc (suc (suc zero))) a b = plain_line a.row a.count
line_for (suc (suc (suc (suc zero)))) a b = contour_line a.count
line_for (suc (suc (suc (suc (suc k))))) a b = []

abbrev pub answer_line : RecordRead → List ℕ → List ℕ
answer_line a b = line_for a.kind a b

-- the line of a record; its body stands after four bytes of length and two of kind
abbrev pub record_line : SheetRecord → List ℕ
record_line x = answer_line x.answer (drop 6 x.bytes)

-- a refused sheet's: "refused N at record K", which "gains `bit B`" for 6 to 10
abbrev pub refused_text : ℕ → ℕ → ℕ → List ℕ
refused_text e at index = cond (has_place e) (refused_bit_line e index at) (refused_at_line e index)

-- the last line: "done rows N", or that
unfoldable pub last_line : ℕ → ℕ → ℕ → ℕ → List ℕ
last_line zero at index rows = done_line rows
last_line (suc e) at index rows = refused_text (suc e) at index
