-- Document 02, ticket 2, by computation: where reading a packed row stops, one case for each way. The table has the strings 0
-- (the step -1), 10 (raw), 110 (bad pixel) and 1110 (bad bias). Each row begins with 43, 0 and more: the first bits are 110, a
-- bad pixel, then 10 and 100000000000, the raw height 1, then 0, the step to the height 0: 3 + 14 + 1 bits. Assumes nothing.
use Rattle.std.specs.Prelude.{ℕ, ◌+◌, ◌≡◌, refl, List, [], ◌∷◌, ◌++◌, length}
use Rattle.sheet_format.specs.declared.RecordRead.{RecordRead}
use Rattle.sheet_format.specs.Context.{context_of}
use Rattle.sheet_format.specs.Kind.PackedRow.{packed_stop}
use Rattle.sheet_format.specs.Reading.{record_held, record_content, context_after, refused_record, record_stop, record_judged}
use Rattle.sheet_format.specs.Sheet.{records_from, sheet_read}
use Rattle.sheet_format.specs.Cases.{ready, reading}

-- the words 7, 4092, 1, 34, 99, 228, 1
abbrev pub falling_table : List ℕ
falling_table =
    7 ∷ 0 ∷ 0 ∷ 0 ∷ 252 ∷ 15 ∷ 0 ∷ 0 ∷ 1 ∷ 0 ∷ 0 ∷ 0 ∷ 34 ∷ 0 ∷ 0 ∷ 0 ∷ 99 ∷ 0 ∷ 0 ∷ 0 ∷ 228 ∷ 0 ∷ 0 ∷ 0 ∷ 1 ∷ 0 ∷ 0 ∷ 0 ∷ []

-- a row of so many pixels in such words, and how it is judged
abbrev pub packed_words : ℕ → ℕ → List ℕ → List ℕ
packed_words row pixels words = (6 + length words) ∷ 0 ∷ 0 ∷ 0 ∷ 2 ∷ 0 ∷ row ∷ 0 ∷ pixels ∷ 0 ∷ words

abbrev pub judged_row : ℕ → List ℕ → RecordRead
judged_row pixels words = record_judged (context_of falling_table ready) (packed_words 5 pixels words)

pub places-right :
    -- 6: four bad pixels more, and 11, the beginning of two strings; a bad pixel, and 10 with nine bits of a height; nothing left
    -- after a second raw height: 32 x 1
    (judged_row 8 (43 ∷ 0 ∷ 108 ∷ 219 ∷ []) ≡ refused_record 30 6)
    × (judged_row 5 (43 ∷ 0 ∷ 44 ∷ 0 ∷ []) ≡ refused_record 21 6)
    × (judged_row 5 (43 ∷ 0 ∷ 20 ∷ 0 ∷ []) ≡ refused_record 32 6)
    -- 7: 1111; 8: the step from 0 to -1; 9: the raw height 4094
    × (judged_row 4 (43 ∷ 0 ∷ 60 ∷ 0 ∷ []) ≡ refused_record 18 7)
    × (judged_row 4 (43 ∷ 0 ∷ 0 ∷ 0 ∷ []) ≡ refused_record 18 8)
    × (judged_row 4 (43 ∷ 0 ∷ 228 ∷ 255 ∷ []) ≡ refused_record 18 9)
    -- 10: bit 25 is set, and the first unused one is 18
    × (judged_row 3 (43 ∷ 0 ∷ 0 ∷ 2 ∷ []) ≡ refused_record 18 10)
    -- 14: a word is left; it shows no place
    × (judged_row 3 (43 ∷ 0 ∷ 0 ∷ 0 ∷ 0 ∷ 0 ∷ 0 ∷ 0 ∷ []) ≡ refused_record 0 14)
unfolding record_judged record_held record_stop packed_stop reading
places-right = (refl, refl, refl, refl, refl, refl, refl, refl)

-- the place of a sheet is that of its refused record, here at record 2
abbrev pub bad_sheet : List ℕ
bad_sheet =
    (30 ∷ 0 ∷ 0 ∷ 0 ∷ 1 ∷ 0 ∷ falling_table)
    ++ (packed_words 5 3 (43 ∷ 0 ∷ 0 ∷ 0 ∷ []) ++ packed_words 6 4 (43 ∷ 0 ∷ 60 ∷ 0 ∷ []))

pub sheet-place-right : ((sheet_read bad_sheet).number ≡ 7) × (length (sheet_read bad_sheet).records ≡ 2) × ((sheet_read bad_sheet).place ≡ 18)
unfolding sheet_read records_from record_judged record_held record_content context_after record_stop packed_stop reading
sheet-place-right = (refl, refl, refl)
