-- docs/FORMAT.md's scan, its rows and the changes of them, by computation. Assumes nothing.
use Rattle.std.specs.Prelude.{ℕ, ◌≡◌, refl, List, [], ◌∷◌, map}
use Rattle.bitstream.specs.Bits.{digits, num_of, flat, cut}
use Rattle.row_format.specs.Lists.{any}
use Rattle.row_format.specs.Plain.{plain_entries, plain_table, plain_bytes}
use Rattle.row_format.specs.Table.{codeword, codeword_at}
use Rattle.row_format.specs.Row.{by_difference, item_for, items_for, bits, row_bits}
use Rattle.sheet_format.specs.Kind.PackedRow.{packed_body}
use Rattle.sheet_format.specs.Writing.{record_bytes}
use Rattle.fits_format.specs.Image.{twos_complement, number_at, big_endian, row_record, before_pixels, image_row_number}

-- "766 766 4095" and "0 766 0"
abbrev pub row0 : List ℕ
row0 = 0x02 ∷ 0xFE ∷ 0x02 ∷ 0xFE ∷ 0x0F ∷ 0xFF ∷ []

abbrev pub row1 : List ℕ
row1 = 0x00 ∷ 0x00 ∷ 0x02 ∷ 0xFE ∷ 0x00 ∷ 0x00 ∷ []

-- their records
pub row0-record : row_record 3 0 row0
    ≡ 0x0A ∷ 0 ∷ 0 ∷ 0 ∷ 0x02 ∷ 0 ∷ 0 ∷ 0 ∷ 0x03 ∷ 0 ∷ 0xF9 ∷ 0x0B ∷ 0x80 ∷ 0x03 ∷ []
unfolding digits num_of flat cut any plain_entries plain_table plain_bytes codeword codeword_at by_difference item_for items_for bits row_bits
    packed_body record_bytes twos_complement number_at big_endian row_record
row0-record = refl

pub row1-record : row_record 3 1 row1
    ≡ 0x0E ∷ 0 ∷ 0 ∷ 0 ∷ 0x02 ∷ 0 ∷ 0x01 ∷ 0 ∷ 0x03 ∷ 0 ∷ 0x01 ∷ 0x40 ∷ 0xFE ∷ 0x02 ∷ 0x20 ∷ 0 ∷ 0 ∷ 0 ∷ []
unfolding digits num_of flat cut any plain_entries plain_table plain_bytes codeword codeword_at by_difference item_for items_for bits row_bits
    packed_body record_bytes twos_complement number_at big_endian row_record
row1-record = refl

-- a call's width, row number, bytes and room, and its number
pub record RowCase : Type 0 where
  pub width : ℕ
  pub row : ℕ
  pub bytes : List ℕ
  pub room : ℕ
  pub number : ℕ

abbrev row_case : ℕ → ℕ → List ℕ → ℕ → ℕ → RowCase
row_case w r s room e = record { width = w; row = r; bytes = s; room = room; number = e }

abbrev pub row_cases : List RowCase
row_cases =
    row_case 3 0 row0 14 0
    -- room a byte short; bytes after the row
    ∷ row_case 3 0 row0 13 5
    ∷ row_case 2 0 row0 100 0
    ∷ row_case 1 0 (0x00 ∷ 0x00 ∷ 0xFF ∷ 0xFF ∷ []) 100 0
    -- no width, too wide, a row that no image has; these before bytes that are missing
    ∷ row_case 0 0 row0 100 17
    ∷ row_case 0 4096 [] 0 17
    ∷ row_case 4097 0 row0 100 11
    ∷ row_case 3 4096 [] 100 11
    ∷ row_case 3 4095 row0 100 0
    -- cut by a byte, and with a bad pixel in what is there
    ∷ row_case 3 0 (0x02 ∷ 0xFE ∷ 0x02 ∷ 0xFE ∷ 0x0F ∷ []) 100 18
    ∷ row_case 3 0 (0xFF ∷ 0xFF ∷ []) 100 18
    -- -2, 4096, -32768, 32767; before room
    ∷ row_case 3 0 (0xFF ∷ 0xFE ∷ 0x02 ∷ 0xFE ∷ 0x0F ∷ 0xFF ∷ []) 100 4
    ∷ row_case 3 1 (0x10 ∷ 0x00 ∷ 0x02 ∷ 0xFE ∷ 0x00 ∷ 0x00 ∷ []) 100 4
    ∷ row_case 3 1 (0x00 ∷ 0x00 ∷ 0x02 ∷ 0xFE ∷ 0x80 ∷ 0x00 ∷ []) 0 4
    ∷ row_case 1 1 (0x7F ∷ 0xFF ∷ []) 0 4
    ∷ []

pub row-cases-right : map (λ (c : RowCase). image_row_number c.width c.row c.bytes c.room) row_cases
    ≡ map (λ (c : RowCase). c.number) row_cases
unfolding digits num_of flat cut any plain_entries plain_table plain_bytes codeword codeword_at by_difference item_for items_for bits row_bits
    packed_body record_bytes twos_complement number_at big_endian row_record before_pixels image_row_number
row-cases-right = refl
