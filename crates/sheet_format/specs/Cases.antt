-- Records and sheets by computation, under the seven-word table that document 01 lists: what the files below share.
-- Assumes nothing.
use Rattle.std.specs.Prelude.{ℕ, List, [], ◌∷◌}
use Rattle.bitstream.specs.Bits.{digits, num_of, flat, cut, begins}
use Rattle.row_format.specs.Lists.{any, least}
use Rattle.row_format.specs.Table.{codeword, codewords, codeword_at, wrong_size, wrong_word, wrong_codeword, clash, verdict, table_number}
use Rattle.row_format.specs.Row.{by_difference, item_for, items_for, bits, row_bits, pixels_of}
use Rattle.row_format.specs.Reading.{find, unmatched, raw_height, matched, read_item, read_by, read_items, stray, first_number, row_reading}
use Rattle.adaptive.specs.Number.{front, data_of, signed_value, continued, data_bytes, later_bytes, read_as, shortest}
use Rattle.sheet_format.specs.declared.SheetState.{SheetState}
use Rattle.sheet_format.specs.Context.{new_sheet, state_of}
use Rattle.sheet_format.specs.Line.{line_bytes, read_line}
use Rattle.sheet_format.specs.Kind.Table.{table_place, table_own}
use Rattle.sheet_format.specs.Kind.Row.{row_place}
use Rattle.sheet_format.specs.Kind.PackedRow.{packed_reading, packed_leftover, packed_own, packed_bits, packed_content, packed_given_number, packed_body, packed_takes}
use Rattle.sheet_format.specs.Kind.PlainRow.{plain_number, plain_own, plain_content, plain_given_number, plain_body}
use Rattle.sheet_format.specs.Kind.ContourLine.{line_number, line_own, read_numbers, line_place, line_given_number, line_body}
use Rattle.sheet_format.specs.Record.{length_number, content_number, record_number}
use Rattle.sheet_format.specs.Writing.{record_bytes, write_number, record_written}
pub mod Records
pub mod Writes
pub mod Sheets
pub mod Places

-- the words 7, 4093, 1, 34, 99, 227, 1
abbrev pub small_table : List ℕ
small_table =
    7 ∷ 0 ∷ 0 ∷ 0 ∷ 253 ∷ 15 ∷ 0 ∷ 0 ∷ 1 ∷ 0 ∷ 0 ∷ 0 ∷ 34 ∷ 0 ∷ 0 ∷ 0 ∷ 99 ∷ 0 ∷ 0 ∷ 0 ∷ 227 ∷ 0 ∷ 0 ∷ 0 ∷ 1 ∷ 0 ∷ 0 ∷ 0 ∷ []

-- a sheet that has nothing yet
abbrev pub at_start : SheetState
at_start = state_of new_sheet

-- a sheet that has its table, and may have row 5 next
abbrev pub ready : SheetState
ready = record { has_table = 1; least_row = 5 }

-- named on an `unfolding` line, these open all that reading and writing compute with
numbering : Unit {0}
unfolding digits num_of flat cut begins any table_place row_place line_place codeword codewords codeword_at wrong_size wrong_word
    wrong_codeword clash verdict table_number by_difference
numbering = tt

reading : Unit {0}
unfolding numbering record_number content_number length_number table_own packed_reading packed_leftover packed_own packed_bits
    packed_content plain_number plain_own plain_content line_number line_own read_numbers first_number row_reading pixels_of least find
    unmatched raw_height matched read_item read_by read_items stray read_line read_as front data_of signed_value
reading = tt

writing : Unit {0}
unfolding numbering record_written write_number record_bytes packed_given_number packed_body packed_takes plain_given_number plain_body
    line_given_number line_body item_for items_for bits row_bits line_bytes shortest data_bytes continued later_bytes
writing = tt
