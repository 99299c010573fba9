-- Document 01: what the four calls on adaptive-precision numbers answer, the memory lent for writing included.
-- Assumes nothing.
use Rattle.std.specs.Prelude.{ℕ, List, length, ℤ, pos, Result, Ok, Err}
use Rattle.answer.specs.declared.Answer.{Answer}
use Rattle.answer.specs.declared.refusal.Refusal.{Refusal}
use Rattle.answer.specs.Outcome.{Outcome, wrote_or_full}
use Rattle.answer.specs.Refusal.{refusal_number}
use Rattle.adaptive.specs.declared.number.Number.{Number}
use Rattle.adaptive.specs.declared.SignedRead.{SignedRead}
use Rattle.adaptive.specs.declared.UnsignedRead.{UnsignedRead}
use Rattle.adaptive.specs.Number.{NumberReading, accepted, rejected, signed_type, unsigned_type, read_as, shortest}
pub mod Laws

-- what a reading in Rattle gives
abbrev pub reading_of : {A : Type 0} → Result (Number A) Refusal → NumberReading A
reading_of (Ok x) = accepted x.value x.used
reading_of (Err e) = rejected (refusal_number e)

-- "The answer is the value and the bytes used"
abbrev pub signed_answer : NumberReading ℤ → SignedRead
signed_answer (accepted v n) = record { number = 0; value = v; used = n }
signed_answer (rejected e) = record { number = e; value = pos 0; used = 0 }

abbrev pub unsigned_answer : NumberReading ℕ → UnsignedRead
unsigned_answer (accepted v n) = record { number = 0; value = v; used = n }
unsigned_answer (rejected e) = record { number = e; value = 0; used = 0 }

unfoldable pub signed_read : List ℕ → SignedRead
signed_read s = signed_answer (read_as signed_type s)

unfoldable pub unsigned_read : List ℕ → UnsignedRead
unsigned_read s = unsigned_answer (read_as unsigned_type s)

-- the bytes b at the front of the lent memory m; 5 where "lent room smaller than this call's output"
unfoldable pub written : List ℕ → List ℕ → Outcome Answer
written b m = wrote_or_full (length b) b m

unfoldable pub signed_written : ℤ → List ℕ → Outcome Answer
signed_written v m = written (shortest signed_type v) m

unfoldable pub unsigned_written : ℕ → List ℕ → Outcome Answer
unsigned_written v m = written (shortest unsigned_type v) m
