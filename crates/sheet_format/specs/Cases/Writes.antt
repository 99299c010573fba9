-- Records that are written, and writes that are refused, for each pair of rules whose order matters. Assumes nothing.
use Rattle.std.specs.Prelude.{ℕ, ◌≡◌, refl, List, [], ◌∷◌, ◌++◌, take, replicate}
use Rattle.sheet_format.specs.declared.SheetState.{SheetState}
use Rattle.sheet_format.specs.Context.{context_of}
use Rattle.sheet_format.specs.Writing.{write_number, record_written}
use Rattle.sheet_format.specs.Cases.{small_table, at_start, ready, writing}

-- ---- a sheet of four records: the table, row 5 `0 4095` packed, row 9 `4095` plain, and the line -1, 64
abbrev pub line_numbers : List ℕ
line_numbers = 255 ∷ 255 ∷ 255 ∷ 255 ∷ 64 ∷ 0 ∷ 0 ∷ 0 ∷ []

abbrev pub table_record : List ℕ
table_record = 30 ∷ 0 ∷ 0 ∷ 0 ∷ 1 ∷ 0 ∷ small_table

-- 10 and twelve times 0, the first height raw, and 110: 17 bits, the word 1 + 3 x 2^14
abbrev pub packed_record : List ℕ
packed_record = 10 ∷ 0 ∷ 0 ∷ 0 ∷ 2 ∷ 0 ∷ 5 ∷ 0 ∷ 2 ∷ 0 ∷ 1 ∷ 192 ∷ 0 ∷ 0 ∷ []

abbrev pub plain_record : List ℕ
plain_record = 8 ∷ 0 ∷ 0 ∷ 0 ∷ 3 ∷ 0 ∷ 9 ∷ 0 ∷ 1 ∷ 0 ∷ 255 ∷ 15 ∷ []

-- the adaptive numbers 7F and 80 40
abbrev pub contour_record : List ℕ
contour_record = 7 ∷ 0 ∷ 0 ∷ 0 ∷ 4 ∷ 0 ∷ 2 ∷ 0 ∷ 127 ∷ 128 ∷ 64 ∷ []

pub record WriteCase : Type 0 where
  pub kind : ℕ
  pub row : ℕ
  pub content : List ℕ
  pub bytes : List ℕ

-- half a pixel and part of a number at the end count for nothing
abbrev pub write_cases : List WriteCase
write_cases =
    record { kind = 1; row = 0; content = small_table; bytes = table_record } ∷
    record { kind = 2; row = 5; content = 0 ∷ 0 ∷ 255 ∷ 15 ∷ 7 ∷ []; bytes = packed_record } ∷
    record { kind = 3; row = 9; content = 255 ∷ 15 ∷ 7 ∷ []; bytes = plain_record } ∷
    record { kind = 4; row = 0; content = line_numbers ++ (7 ∷ 7 ∷ 7 ∷ []); bytes = contour_record } ∷ []

-- each written in the state that the one before left, into 40 bytes of 9
unfoldable pub written_from : SheetState → List WriteCase → List (List ℕ)
written_from st [] = []
written_from st (c ∷ cs) =
    let w = record_written c.kind (record { row = c.row }) (context_of small_table st) c.content (replicate 40 9) in
    take w.answer.count w.memory ∷ written_from w.answer.state cs

unfoldable pub expected : List WriteCase → List (List ℕ)
expected [] = []
expected (c ∷ cs) = c.bytes ∷ expected cs

pub writes-right : written_from at_start write_cases ≡ expected write_cases
unfolding written_from expected writing
writes-right = refl

-- ---- writes that are refused: the number, kind, row, table, content, state and room
pub record RefusedWrite : Type 0 where
  pub number : ℕ
  pub kind : ℕ
  pub row : ℕ
  pub table : List ℕ
  pub content : List ℕ
  pub state : SheetState
  pub room : ℕ

abbrev pub refused_write : ℕ → ℕ → ℕ → List ℕ → List ℕ → SheetState → ℕ → RefusedWrite
refused_write number kind row table content state room =
    record { number = number; kind = kind; row = row; table = table; content = content; state = state; room = room }

-- 15 before 16; 16 before 1; no row above 65535, while no other kind's number is looked at; 1 before 4; 4 before 5; 5 by one
-- byte; a plain row under no table at all
abbrev pub refused_writes : List RefusedWrite
refused_writes =
    refused_write 15 0 0 [] [] at_start 0 ∷
    refused_write 15 5 0 [] [] at_start 0 ∷
    refused_write 16 1 0 [] [] ready 0 ∷
    refused_write 16 2 9 [] [] at_start 0 ∷
    refused_write 16 2 4 [] (0 ∷ 16 ∷ []) ready 0 ∷
    refused_write 16 3 4 [] (0 ∷ 16 ∷ []) ready 0 ∷
    refused_write 16 4 9 [] [] at_start 0 ∷
    refused_write 16 2 65536 small_table [] ready 99 ∷
    refused_write 0 2 65535 small_table [] ready 99 ∷
    refused_write 16 3 70000 [] [] ready 99 ∷
    refused_write 0 3 65535 [] [] ready 99 ∷
    refused_write 0 1 70000 [] small_table at_start 34 ∷
    refused_write 0 4 70000 [] [] ready 99 ∷
    refused_write 1 1 0 [] [] at_start 0 ∷
    refused_write 1 1 0 small_table (small_table ++ (0 ∷ [])) at_start 99 ∷
    refused_write 1 2 5 [] (0 ∷ 16 ∷ []) ready 0 ∷
    refused_write 4 2 5 small_table (0 ∷ 16 ∷ []) ready 0 ∷
    refused_write 4 3 5 [] (0 ∷ 16 ∷ []) ready 0 ∷
    refused_write 5 1 0 [] small_table at_start 33 ∷
    refused_write 0 1 0 [] small_table at_start 34 ∷
    refused_write 5 2 5 small_table (0 ∷ 0 ∷ 255 ∷ 15 ∷ []) ready 13 ∷
    refused_write 0 2 5 small_table (0 ∷ 0 ∷ 255 ∷ 15 ∷ []) ready 14 ∷
    refused_write 5 3 5 [] (255 ∷ 15 ∷ []) ready 11 ∷
    refused_write 0 3 5 [] (255 ∷ 15 ∷ []) ready 12 ∷
    refused_write 5 4 0 [] line_numbers ready 10 ∷
    refused_write 0 4 0 [] line_numbers ready 11 ∷ []

unfoldable pub write_numbers_of : List RefusedWrite → List ℕ
write_numbers_of [] = []
write_numbers_of (c ∷ cs) =
    write_number c.kind (record { row = c.row }) (context_of c.table c.state) c.content c.room ∷ write_numbers_of cs

unfoldable pub writes_claimed : List RefusedWrite → List ℕ
writes_claimed [] = []
writes_claimed (c ∷ cs) = c.number ∷ writes_claimed cs

pub refused-writes-right : write_numbers_of refused_writes ≡ writes_claimed refused_writes
unfolding write_numbers_of writes_claimed writing
refused-writes-right = refl

-- 11 before 4 and 5, and after 1: 4097 pixels, the first too high, and 4097 numbers
abbrev pub many_pixels : List ℕ
many_pixels = 0 ∷ 16 ∷ replicate 8192 0

abbrev pub number_for : ℕ → List ℕ → List ℕ → ℕ
number_for kind tb x = write_number kind (record { row = 5 }) (context_of tb ready) x 0

pub too-many-right :
    (number_for 2 [] many_pixels ≡ 1) × (number_for 2 small_table many_pixels ≡ 11)
    × (number_for 3 [] many_pixels ≡ 11) × (number_for 4 [] (replicate 16388 0) ≡ 11)
unfolding writing
too-many-right = (refl, refl, refl, refl)
