-- That the records of a table and of rows of heights are a sheet, and that it stores those rows. Assumes nothing.
use Rattle.std.specs.Prelude.{ℕ, suc, ◌+◌, ◌*◌, ◌≤◌, ◌≡◌}
use Rattle.std.proofs.Math.Numerals.{add-one}
use Rattle.std.proofs.Common.{arith, sym, ◌∙◌}
use Rattle.std.proofs.Math.Path.{refl, ap}
use mathlib.Core.List.{List, [], ◌∷◌, ◌++◌}
use Rattle.std.proofs.Math.ListN.{length}
use borrow.Author.Tests.{le-ltb}
use Rattle.bitstream.specs.Bits.{halves_of, flat, Below}
use Rattle.bitstream.specs.Bits.Laws.{below-cut, below-flat}
use Rattle.answer.specs.Outcome.{◌or_else◌, lent, room_number}
use Rattle.answer.specs.Outcome.Laws.{less_number-none}
use Rattle.row_format.specs.Table.{table_number}
use Rattle.row_format.specs.Row.{pixel_bytes, too_high}
use Rattle.row_format.proofs.Theorems.Words.{halves_of-bytes_of}
use Rattle.sheet_format.specs.Context.{no_heading, new_sheet}
use Rattle.sheet_format.specs.Kind.Table.{table_place}
use Rattle.sheet_format.specs.Kind.Row.{row_place}
use Rattle.sheet_format.specs.Kind.Row.Laws.{halves-same}
use Rattle.sheet_format.specs.Kind.PackedRow.{packed_given_number}
use Rattle.sheet_format.specs.Writing.{record_for, write_number, RecordWritable}
use Rattle.sheet_format.specs.Writing.Laws.{write_number-writable, record_written-number, record_written-front}
use Rattle.sheet_format.specs.Sheet.{SheetRead, sheet_read, stored_rows}
use Rattle.sheet_format.specs.Given.{Write, bytes_written, Done, AllDone, sheet_bytes, given_by, sheet_given}
use Rattle.sheet_format.proofs.Theorems.Sheets.{sheet_read-written}
use Rattle.fits_format.specs.Image.Laws.{below-heights}
use Rattle.fits_format.specs.Heights.{table_bytes, under_table, heights_record, heights_records, numbered, LineRight, LinesRight}

-- ---- a row under an accepted table: it is refused 4 and 5, and nothing else
module _ (tb : List ℕ) (ok : table_number tb ≡ 0) (r : ℕ) (low : r ≤ 65535) (hs : List ℕ) (few : length hs ≤ 4096)
    (small : Below 65536 hs) where
  place_none : row_place (under_table tb r) (record { row = r }) ≡ 0
  unfolding row_place
  place_none = rw (le-ltb r r (omega arith), le-ltb 65535 r low)

  given-high : packed_given_number (record { row = r }) (under_table tb r) (pixel_bytes hs) ≡ too_high hs
  unfolding packed_given_number
  given-high = rw (ok, halves_of-bytes_of (length hs) hs refl small, less_number-none 4096 (length hs) 11 few)

  pub heights-number : (room : ℕ) → write_number 2 (record { row = r }) (under_table tb r) (pixel_bytes hs) room
      ≡ too_high hs or_else room_number (lent room) (length (heights_record tb r hs))
  unfolding write_number heights_record
  heights-number room = rw (place_none, given-high)

-- ---- a row as the record writer is given it
abbrev heights_write : List ℕ → ℕ → List ℕ → Write
heights_write tb r hs = record { kind = 2; heading = record { row = r }; content = pixel_bytes hs; memory = heights_record tb r hs }

module _ (tb : List ℕ) (ok : table_number tb ≡ 0) (r : ℕ) (low : r ≤ 65535) (hs : List ℕ) (right : LineRight hs) where
  small : Below 65536 hs
  small = below-heights hs right.low

  bytes : Below 256 (pixel_bytes hs)
  bytes = below-cut 8 (2 * length hs) (flat 16 hs) (below-flat 16 hs)

  number : write_number 2 (record { row = r }) (under_table tb r) (pixel_bytes hs) (length (heights_record tb r hs)) ≡ 0
  number =
      let size = length (heights_record tb r hs) in
      heights-number tb ok r low hs right.few small size
      ∙ rw (right.low, less_number-none size size 5 (omega arith))

  row_done_lem : Done (under_table tb r) (heights_write tb r hs)
  row_done_lem = record {
    bytes = bytes;
    done = record_written-number 2 (record { row = r }) (under_table tb r) (pixel_bytes hs) (heights_record tb r hs) ∙ number;
  }

  row-bytes : bytes_written (under_table tb r) (heights_write tb r hs) ≡ heights_record tb r hs
  unfolding heights_record
  row-bytes = record_written-front 2 (record { row = r }) (under_table tb r) (pixel_bytes hs) (heights_record tb r hs) number

  row-heights : halves_of (given_by (under_table tb r) (heights_write tb r hs)).content ≡ hs
  row-heights = halves-same (pixel_bytes hs) bytes ∙ halves_of-bytes_of (length hs) hs refl small

-- ---- rows one after another
module _ (tb : List ℕ) (ok : table_number tb ≡ 0) where
  unfoldable row_writes : ℕ → List (List ℕ) → List Write
  row_writes r [] = []
  row_writes r (l ∷ ls) = heights_write tb r l ∷ row_writes (suc r) ls

  rows-done : (ls : List (List ℕ)) (r : ℕ) → r + length ls ≤ 65536 → LinesRight ls → AllDone (under_table tb r) (row_writes r ls)
  unfolding row_writes
  rows-done [] r most right = tt
  rows-done (l ∷ ls) r most right =
      (row_done_lem tb ok r (omega arith) l right.0, rw (add-one r) (rows-done ls (suc r) (omega arith) right.1))

  rows-bytes : (ls : List (List ℕ)) (r : ℕ) → r + length ls ≤ 65536 → LinesRight ls
      → sheet_bytes (under_table tb r) (row_writes r ls) ≡ heights_records tb r ls
  unfolding row_writes sheet_bytes heights_records
  rows-bytes [] r most right = refl
  rows-bytes (l ∷ ls) r most right =
      rw (row-bytes tb ok r (omega arith) l right.0, add-one r, rows-bytes ls (suc r) (omega arith) right.1)

  rows-stored : (ls : List (List ℕ)) (r : ℕ) → r + length ls ≤ 65536 → LinesRight ls
      → stored_rows (sheet_given (under_table tb r) (row_writes r ls)) ≡ numbered r ls
  unfolding row_writes sheet_given stored_rows numbered
  rows-stored [] r most right = refl
  rows-stored (l ∷ ls) r most right =
      rw (row-heights tb ok r (omega arith) l right.0, add-one r, rows-stored ls (suc r) (omega arith) right.1)

  -- ---- the sheet
  abbrev table_write : Write
  table_write = record { kind = 1; heading = no_heading; content = tb; memory = table_bytes tb }

  table-number : write_number 1 no_heading new_sheet tb (length (table_bytes tb)) ≡ 0
  unfolding table_bytes
  table-number =
      let size = length (record_for 1 no_heading new_sheet tb) in
      let can : RecordWritable 1 no_heading new_sheet tb = record { writable = refl; place = unfold table_place in refl; given = ok } in
      write_number-writable 1 no_heading new_sheet tb size can ∙ less_number-none size size 5 (omega arith)

  table-bytes : bytes_written new_sheet table_write ≡ table_bytes tb
  unfolding table_bytes
  table-bytes = record_written-front 1 no_heading new_sheet tb (table_bytes tb) table-number

  module _ (table : Below 256 tb) (ls : List (List ℕ)) (most : length ls ≤ 65536) (right : LinesRight ls) where
    table_done : Done new_sheet table_write
    table_done = record {
      bytes = table;
      done = record_written-number 1 no_heading new_sheet tb (table_bytes tb) ∙ table-number;
    }

    abbrev sheet : List ℕ
    sheet = table_bytes tb ++ heights_records tb 0 ls

    sheet-is : sheet_read sheet ≡ record { records = sheet_given new_sheet (table_write ∷ row_writes 0 ls); number = 0; place = 0 }
    sheet-is =
        let bytes-is : sheet_bytes new_sheet (table_write ∷ row_writes 0 ls) ≡ sheet =
        unfold sheet_bytes in (rw (table-bytes, rows-bytes ls 0 (omega arith) right)) in
        ap sheet_read (sym bytes-is)
        ∙ sheet_read-written table_write (row_writes 0 ls) (table_done, rows-done ls 0 (omega arith) right)

    pub sheet-accepted : (sheet_read sheet).number ≡ 0
    sheet-accepted = ap (λ (x : SheetRead). x.number) sheet-is

    pub sheet-rows : stored_rows (sheet_read sheet).records ≡ numbered 0 ls
    unfolding sheet_given stored_rows
    sheet-rows = rw sheet-is (rows-stored ls 0 (omega arith) right)
