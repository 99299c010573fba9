-- Records and the numbers that they are refused with, one for each rule and for each pair of rules whose order matters.
-- Assumes nothing.
use Rattle.std.specs.Prelude.{ℕ, ◌≡◌, refl, List, [], ◌∷◌, ◌++◌}
use Rattle.sheet_format.specs.declared.SheetState.{SheetState}
use Rattle.answer.specs.Outcome.{Lent, nothing, lent}
use Rattle.sheet_format.specs.Context.{context_of}
use Rattle.sheet_format.specs.Record.{record_number}
use Rattle.sheet_format.specs.Cases.{small_table, at_start, ready, reading}

pub record RecordCase : Type 0 where
  pub number : ℕ
  pub state : SheetState
  pub memory : Lent
  pub bytes : List ℕ

infix 80 ◌of◌
abbrev pub ◌of◌ : ℕ → List ℕ → RecordCase
n of r = record { number = n; state = ready; memory = nothing; bytes = r }

abbrev pub of_first : ℕ → List ℕ → RecordCase
of_first n r = record { number = n; state = at_start; memory = nothing; bytes = r }

abbrev pub of_lent : ℕ → ℕ → List ℕ → RecordCase
of_lent n m r = record { number = n; state = ready; memory = lent m; bytes = r }

abbrev pub record_cases : List RecordCase
record_cases =
    -- length: too few bytes for it, below 2, one byte short, all there and more after it
    14 of [] ∷
    14 of (2 ∷ 0 ∷ 0 ∷ []) ∷
    14 of (1 ∷ 0 ∷ 0 ∷ 0 ∷ 9 ∷ 0 ∷ []) ∷
    14 of (4 ∷ 0 ∷ 0 ∷ 0 ∷ 4 ∷ 0 ∷ 0 ∷ []) ∷
    0 of (4 ∷ 0 ∷ 0 ∷ 0 ∷ 4 ∷ 0 ∷ 0 ∷ 0 ∷ []) ∷
    0 of (4 ∷ 0 ∷ 0 ∷ 0 ∷ 4 ∷ 0 ∷ 0 ∷ 0 ∷ 9 ∷ 9 ∷ []) ∷
    -- kind, before fixed fields and place
    15 of (2 ∷ 0 ∷ 0 ∷ 0 ∷ 0 ∷ 0 ∷ []) ∷
    15 of (2 ∷ 0 ∷ 0 ∷ 0 ∷ 5 ∷ 0 ∷ []) ∷
    of_first 15 (2 ∷ 0 ∷ 0 ∷ 0 ∷ 4 ∷ 1 ∷ []) ∷
    -- fixed fields missing, or not whole words, before place
    of_first 14 (5 ∷ 0 ∷ 0 ∷ 0 ∷ 2 ∷ 0 ∷ 5 ∷ 0 ∷ 0 ∷ []) ∷
    of_first 14 (7 ∷ 0 ∷ 0 ∷ 0 ∷ 2 ∷ 0 ∷ 5 ∷ 0 ∷ 0 ∷ 0 ∷ 0 ∷ []) ∷
    of_first 14 (5 ∷ 0 ∷ 0 ∷ 0 ∷ 3 ∷ 0 ∷ 5 ∷ 0 ∷ 0 ∷ []) ∷
    of_first 14 (3 ∷ 0 ∷ 0 ∷ 0 ∷ 4 ∷ 0 ∷ 0 ∷ []) ∷
    14 of (3 ∷ 0 ∷ 0 ∷ 0 ∷ 1 ∷ 0 ∷ 7 ∷ []) ∷
    -- place: no table first, a second table before its content is looked at, a row number not risen before 11 and 6
    of_first 16 (6 ∷ 0 ∷ 0 ∷ 0 ∷ 2 ∷ 0 ∷ 5 ∷ 0 ∷ 0 ∷ 0 ∷ []) ∷
    of_first 16 (6 ∷ 0 ∷ 0 ∷ 0 ∷ 3 ∷ 0 ∷ 5 ∷ 0 ∷ 0 ∷ 0 ∷ []) ∷
    of_first 16 (4 ∷ 0 ∷ 0 ∷ 0 ∷ 4 ∷ 0 ∷ 0 ∷ 0 ∷ []) ∷
    16 of (2 ∷ 0 ∷ 0 ∷ 0 ∷ 1 ∷ 0 ∷ []) ∷
    16 of (6 ∷ 0 ∷ 0 ∷ 0 ∷ 2 ∷ 0 ∷ 4 ∷ 0 ∷ 1 ∷ 16 ∷ []) ∷
    16 of (6 ∷ 0 ∷ 0 ∷ 0 ∷ 3 ∷ 0 ∷ 4 ∷ 0 ∷ 1 ∷ 0 ∷ []) ∷
    0 of (6 ∷ 0 ∷ 0 ∷ 0 ∷ 3 ∷ 0 ∷ 5 ∷ 0 ∷ 0 ∷ 0 ∷ []) ∷
    -- kind 1: no word at all is 1; the table itself
    of_first 1 (2 ∷ 0 ∷ 0 ∷ 0 ∷ 1 ∷ 0 ∷ []) ∷
    of_first 0 (30 ∷ 0 ∷ 0 ∷ 0 ∷ 1 ∷ 0 ∷ small_table) ∷
    -- a table with an extra word is 1, never leftover
    of_first 1 (34 ∷ 0 ∷ 0 ∷ 0 ∷ 1 ∷ 0 ∷ small_table ++ (0 ∷ 0 ∷ 0 ∷ 0 ∷ [])) ∷
    -- kind 2: 11; no words; one pixel 0; a bit above it; a word after the last used one, also where there is no pixel
    11 of (6 ∷ 0 ∷ 0 ∷ 0 ∷ 2 ∷ 0 ∷ 5 ∷ 0 ∷ 1 ∷ 16 ∷ []) ∷
    6 of (6 ∷ 0 ∷ 0 ∷ 0 ∷ 2 ∷ 0 ∷ 5 ∷ 0 ∷ 1 ∷ 0 ∷ []) ∷
    0 of (10 ∷ 0 ∷ 0 ∷ 0 ∷ 2 ∷ 0 ∷ 5 ∷ 0 ∷ 1 ∷ 0 ∷ 0 ∷ 0 ∷ 0 ∷ 0 ∷ []) ∷
    10 of (10 ∷ 0 ∷ 0 ∷ 0 ∷ 2 ∷ 0 ∷ 5 ∷ 0 ∷ 1 ∷ 0 ∷ 2 ∷ 0 ∷ 0 ∷ 0 ∷ []) ∷
    10 of (14 ∷ 0 ∷ 0 ∷ 0 ∷ 2 ∷ 0 ∷ 5 ∷ 0 ∷ 1 ∷ 0 ∷ 2 ∷ 0 ∷ 0 ∷ 0 ∷ 0 ∷ 0 ∷ 0 ∷ 0 ∷ []) ∷
    14 of (14 ∷ 0 ∷ 0 ∷ 0 ∷ 2 ∷ 0 ∷ 5 ∷ 0 ∷ 1 ∷ 0 ∷ 0 ∷ 0 ∷ 0 ∷ 0 ∷ 0 ∷ 0 ∷ 0 ∷ 0 ∷ []) ∷
    14 of (10 ∷ 0 ∷ 0 ∷ 0 ∷ 2 ∷ 0 ∷ 5 ∷ 0 ∷ 0 ∷ 0 ∷ 0 ∷ 0 ∷ 0 ∷ 0 ∷ []) ∷
    -- kind 3: 11 before 14; half a pixel and a pixel too many before 4; 4; the greatest pixel
    11 of (6 ∷ 0 ∷ 0 ∷ 0 ∷ 3 ∷ 0 ∷ 5 ∷ 0 ∷ 1 ∷ 16 ∷ []) ∷
    14 of (7 ∷ 0 ∷ 0 ∷ 0 ∷ 3 ∷ 0 ∷ 5 ∷ 0 ∷ 1 ∷ 0 ∷ 0 ∷ []) ∷
    14 of (10 ∷ 0 ∷ 0 ∷ 0 ∷ 3 ∷ 0 ∷ 5 ∷ 0 ∷ 1 ∷ 0 ∷ 0 ∷ 16 ∷ 0 ∷ 0 ∷ []) ∷
    4 of (8 ∷ 0 ∷ 0 ∷ 0 ∷ 3 ∷ 0 ∷ 5 ∷ 0 ∷ 1 ∷ 0 ∷ 0 ∷ 16 ∷ []) ∷
    0 of (8 ∷ 0 ∷ 0 ∷ 0 ∷ 3 ∷ 0 ∷ 5 ∷ 0 ∷ 1 ∷ 0 ∷ 255 ∷ 15 ∷ []) ∷
    -- kind 4: 11 before 12; 12; 13; two numbers, the second in a longer form; a byte after them
    11 of (4 ∷ 0 ∷ 0 ∷ 0 ∷ 4 ∷ 0 ∷ 1 ∷ 16 ∷ []) ∷
    12 of (5 ∷ 0 ∷ 0 ∷ 0 ∷ 4 ∷ 0 ∷ 1 ∷ 0 ∷ 128 ∷ []) ∷
    12 of (4 ∷ 0 ∷ 0 ∷ 0 ∷ 4 ∷ 0 ∷ 1 ∷ 0 ∷ []) ∷
    13 of (9 ∷ 0 ∷ 0 ∷ 0 ∷ 4 ∷ 0 ∷ 2 ∷ 0 ∷ 128 ∷ 128 ∷ 128 ∷ 128 ∷ 128 ∷ []) ∷
    0 of (7 ∷ 0 ∷ 0 ∷ 0 ∷ 4 ∷ 0 ∷ 2 ∷ 0 ∷ 127 ∷ 128 ∷ 3 ∷ []) ∷
    14 of (7 ∷ 0 ∷ 0 ∷ 0 ∷ 4 ∷ 0 ∷ 1 ∷ 0 ∷ 127 ∷ 128 ∷ 3 ∷ []) ∷
    -- room: of a packed row after 11 and before its items, of a plain row and of a line last
    of_lent 11 0 (6 ∷ 0 ∷ 0 ∷ 0 ∷ 2 ∷ 0 ∷ 5 ∷ 0 ∷ 1 ∷ 16 ∷ []) ∷
    of_lent 5 1 (6 ∷ 0 ∷ 0 ∷ 0 ∷ 2 ∷ 0 ∷ 5 ∷ 0 ∷ 1 ∷ 0 ∷ []) ∷
    of_lent 6 2 (6 ∷ 0 ∷ 0 ∷ 0 ∷ 2 ∷ 0 ∷ 5 ∷ 0 ∷ 1 ∷ 0 ∷ []) ∷
    of_lent 4 1 (8 ∷ 0 ∷ 0 ∷ 0 ∷ 3 ∷ 0 ∷ 5 ∷ 0 ∷ 1 ∷ 0 ∷ 0 ∷ 16 ∷ []) ∷
    of_lent 5 1 (8 ∷ 0 ∷ 0 ∷ 0 ∷ 3 ∷ 0 ∷ 5 ∷ 0 ∷ 1 ∷ 0 ∷ 255 ∷ 15 ∷ []) ∷
    of_lent 0 2 (8 ∷ 0 ∷ 0 ∷ 0 ∷ 3 ∷ 0 ∷ 5 ∷ 0 ∷ 1 ∷ 0 ∷ 255 ∷ 15 ∷ []) ∷
    of_lent 14 7 (7 ∷ 0 ∷ 0 ∷ 0 ∷ 4 ∷ 0 ∷ 1 ∷ 0 ∷ 127 ∷ 128 ∷ 3 ∷ []) ∷
    of_lent 5 7 (7 ∷ 0 ∷ 0 ∷ 0 ∷ 4 ∷ 0 ∷ 2 ∷ 0 ∷ 127 ∷ 128 ∷ 3 ∷ []) ∷
    of_lent 0 8 (7 ∷ 0 ∷ 0 ∷ 0 ∷ 4 ∷ 0 ∷ 2 ∷ 0 ∷ 127 ∷ 128 ∷ 3 ∷ []) ∷ []

unfoldable pub numbers_of : List RecordCase → List ℕ
numbers_of [] = []
numbers_of (c ∷ cs) = record_number c.memory (context_of small_table c.state) c.bytes ∷ numbers_of cs

unfoldable pub claimed : List RecordCase → List ℕ
claimed [] = []
claimed (c ∷ cs) = c.number ∷ claimed cs

pub records-right : numbers_of record_cases ≡ claimed record_cases
unfolding numbers_of claimed reading
records-right = refl
