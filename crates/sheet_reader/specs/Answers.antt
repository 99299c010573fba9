-- What reading a record comes to, and what C gets of it. Definitions only. Assumes nothing.
use Rattle.std.specs.Prelude.{ℕ, ◌≡◌, ◌<◌, Result, Ok, Err, MatchResult}
use Rattle.row_format.specs.declared.RowUnpacked.{RowUnpacked}
use Rattle.sheet_format.specs.declared.RecordRead.{RecordRead}
use Rattle.sheet_format.specs.Reading.{refused_record}
use Rattle.sheet_reader.specs.declared.answers.Refused.{Refused}

abbrev pub read_answer : Result RecordRead Refused → RecordRead
read_answer (Ok a) = a
read_answer (Err e) = refused_record e.at e.number

-- 0 for done, whatever is given
abbrev pub read_number : {A : Type 0} → Result A Refused → ℕ
read_number (Ok given) = 0
read_number (Err e) = e.number

abbrev pub read_place : {A : Type 0} → Result A Refused → ℕ
read_place (Ok given) = 0
read_place (Err e) = e.at

-- the count of an answer, or its number and place where the number is not 0
abbrev pub UnpackedTo : RowUnpacked → Result ℕ Refused → Type 0
UnpackedTo a r = MatchResult r (λ count. (a.number ≡ 0) × (a.count ≡ count))
    (λ e. (a.number ≡ e.number) × ((a.at ≡ e.at) × (0 < e.number)))
