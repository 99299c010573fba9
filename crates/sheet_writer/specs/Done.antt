-- What a write comes to, and what C gets of it. Definitions only. Assumes nothing.
use Rattle.std.specs.Prelude.{ℕ, ◌≡◌, ◌<◌, Result, Ok, Err, MatchResult}
use Rattle.answer.specs.declared.Answer.{Answer}
use Rattle.sheet_format.specs.declared.RecordWritten.{RecordWritten}
use Rattle.sheet_format.specs.Writing.{not_written}
use Rattle.sheet_writer.specs.declared.done.Written.{Written}
use Rattle.sheet_writer.specs.declared.done.NotWritten.{NotWritten}

abbrev pub record_answer : Result Written NotWritten → RecordWritten
record_answer (Ok w) = record { number = 0; count = w.count; state = w.state }
record_answer (Err e) = not_written e.number

-- the count of an answer, or its number where that is not 0
abbrev pub CountOf : Answer → Result ℕ NotWritten → Type 0
CountOf a r = MatchResult r (λ count. (a.number ≡ 0) × (a.count ≡ count)) (λ e. (a.number ≡ e.number) × (0 < e.number))

-- 0 for done, whatever is given
abbrev pub write_number : {A : Type 0} → Result A NotWritten → ℕ
write_number (Ok given) = 0
write_number (Err e) = e.number
