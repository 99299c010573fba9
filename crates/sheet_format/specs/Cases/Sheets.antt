-- A whole sheet, what is read of its records, and sheets that are refused. Assumes nothing.
use Rattle.std.specs.Prelude.{ℕ, ◌≡◌, refl, List, [], ◌∷◌, ◌++◌, length, replicate, pos, negsuc}
use Rattle.sheet_format.specs.declared.RecordRead.{RecordRead}
use Rattle.sheet_format.specs.Context.{Context, context_of}
use Rattle.sheet_format.specs.Reading.{record_held, record_content, context_after, record_judged, record_read}
use Rattle.sheet_format.specs.Sheet.{SheetRead, records_from, sheet_read, absent, present, stored_rows, stored_lines, heights_of}
use Rattle.sheet_format.specs.Cases.{small_table, ready, reading}
use Rattle.sheet_format.specs.Cases.Writes.{line_numbers, table_record, packed_record, plain_record, contour_record}

abbrev pub whole_sheet : List ℕ
whole_sheet = table_record ++ (packed_record ++ (plain_record ++ contour_record))

abbrev pub record_answer : ℕ → ℕ → ℕ → ℕ → ℕ → ℕ → ℕ → RecordRead
record_answer kind row count bits words whole least =
    record {
      number = 0;
      kind = kind;
      row = row;
      count = count;
      bits = bits;
      words = words;
      length = whole;
      state = record { has_table = 1; least_row = least };
      at = 0;
    }

abbrev pub whole_read : SheetRead
whole_read = record {
  number = 0;
  place = 0;
  records =
      record { answer = record_answer 1 0 7 0 0 34 0; content = []; bytes = table_record } ∷
      record { answer = record_answer 2 5 2 17 1 14 6; content = 0 ∷ 0 ∷ 255 ∷ 15 ∷ []; bytes = packed_record } ∷
      record { answer = record_answer 3 9 1 0 0 12 10; content = 255 ∷ 15 ∷ []; bytes = plain_record } ∷
      record { answer = record_answer 4 0 2 0 0 11 10; content = line_numbers; bytes = contour_record } ∷ [];
}

pub sheet-right : sheet_read whole_sheet ≡ whole_read
unfolding sheet_read records_from record_judged record_held record_content context_after reading
sheet-right = refl

-- the same row as it was packed before document 02's ticket 5, its first height by the step 0: the strings 0 and 110, four bits
abbrev pub former_record : List ℕ
former_record = 10 ∷ 0 ∷ 0 ∷ 0 ∷ 2 ∷ 0 ∷ 5 ∷ 0 ∷ 2 ∷ 0 ∷ 6 ∷ 0 ∷ 0 ∷ 0 ∷ []

pub former-right :
    sheet_read (table_record ++ former_record)
    ≡ record {
      number = 0;
      place = 0;
      records =
          record { answer = record_answer 1 0 7 0 0 34 0; content = []; bytes = table_record } ∷
          record { answer = record_answer 2 5 2 4 1 14 6; content = 0 ∷ 0 ∷ 255 ∷ 15 ∷ []; bytes = former_record } ∷ [];
    }
unfolding sheet_read records_from record_judged record_held record_content context_after reading
former-right = refl

-- what its rows and lines store
pub stored-right :
    (heights_of 5 (stored_rows (sheet_read whole_sheet).records) ≡ present (0 ∷ 4095 ∷ []))
    × (heights_of 9 (stored_rows (sheet_read whole_sheet).records) ≡ present (4095 ∷ []))
    × (heights_of 7 (stored_rows (sheet_read whole_sheet).records) ≡ absent)
    × (stored_lines (sheet_read whole_sheet).records ≡ (negsuc 0 ∷ pos 64 ∷ []) ∷ [])
unfolding stored_rows stored_lines heights_of sheet_read records_from record_judged record_held record_content context_after reading
stored-right = (refl, refl, refl, refl)

-- what is read of its last three records, into 9 bytes of 9
abbrev pub ready_sheet : Context
ready_sheet = context_of small_table ready

pub contents-right :
    ((record_read ready_sheet packed_record (replicate 9 9)).memory ≡ 0 ∷ 0 ∷ 255 ∷ 15 ∷ 9 ∷ 9 ∷ 9 ∷ 9 ∷ 9 ∷ [])
    × ((record_read ready_sheet plain_record (replicate 9 9)).memory ≡ 255 ∷ 15 ∷ 9 ∷ 9 ∷ 9 ∷ 9 ∷ 9 ∷ 9 ∷ 9 ∷ [])
    × ((record_read ready_sheet contour_record (replicate 9 9)).memory ≡ line_numbers ++ (9 ∷ []))
unfolding record_read record_held record_content reading
contents-right = (refl, refl, refl)

-- no bytes at all; one byte; the same row twice, at record 2; one byte too many, at record 4
abbrev pub sheet_refused : List ℕ → List ℕ
sheet_refused s = (sheet_read s).number ∷ length (sheet_read s).records ∷ []

pub refused-right :
    (sheet_refused [] ≡ 16 ∷ 0 ∷ []) × (sheet_refused (30 ∷ []) ≡ 14 ∷ 0 ∷ [])
    × (sheet_refused (table_record ++ (packed_record ++ packed_record)) ≡ 16 ∷ 2 ∷ [])
    × (sheet_refused (whole_sheet ++ (0 ∷ [])) ≡ 14 ∷ 4 ∷ [])
unfolding sheet_read records_from record_judged record_held context_after reading
refused-right = (refl, refl, refl, refl)
