-- What the calls that give out lines answer, the memory lent for them included. c is what the sheet holds so far, r the
-- sheet's bytes from a record's place on, m the memory lent, as it was. Definitions only; their laws are in Listed/Laws.antt.
-- Assumes nothing.
use Rattle.std.specs.Prelude.{ℕ, ◌≤◌, ◌≡◌, List, length}
use Rattle.answer.specs.declared.Answer.{Answer}
use Rattle.answer.specs.Outcome.{Outcome, outcome, writes, refused, wrote, ◌or_else◌, unless, lent, room_number}
use Rattle.sheet_format.specs.declared.RecordRead.{RecordRead}
use Rattle.sheet_format.specs.Context.{Context}
use Rattle.sheet_format.specs.Reading.{refused_record, record_judged}
use Rattle.sheet_format.specs.Sheet.{record_here}
use Rattle.sheet_listing.specs.declared.ListedRecord.{ListedRecord}
use Rattle.sheet_listing.specs.Line.{record_line}
pub mod Laws
pub mod Given

-- 5 where a line does not fit
abbrev pub no_room : List ℕ → List ℕ → ℕ
no_room l m = room_number (lent (length m)) (length l)

-- a line at the front of the memory
unfoldable pub line_given : List ℕ → List ℕ → Outcome Answer
line_given l m = unless (no_room l m) (λ e. refused e m) (wrote (length l) l m)

-- ---- a record judged, and its line at the front of the memory
abbrev pub not_listed : ℕ → ℕ → ListedRecord
not_listed at e = record { read = refused_record at e; count = 0 }

-- by the number that it is refused with, the record's or 5, and what was judged: its place is kept for 6 to 10
abbrev pub judged_listed : ℕ → RecordRead → List ℕ → List ℕ → Outcome ListedRecord
judged_listed e a l m = unless e (λ k. outcome (not_listed a.at k) m) (writes (record { read = a; count = length l }) l m)

-- an accepted record with the line l
abbrev pub line_listed : List ℕ → RecordRead → List ℕ → Outcome ListedRecord
line_listed l a m = judged_listed (no_room l m) a l m

-- the line of an accepted record fits 128 bytes
abbrev pub LineShort : Context → List ℕ → Type 0
LineShort c r = (record_judged c r).number ≡ 0 → length (record_line (record_here c r)) ≤ 128

unfoldable pub record_listed : Context → List ℕ → List ℕ → Outcome ListedRecord
record_listed c r m =
    let l : List ℕ = record_line (record_here c r) in
    judged_listed ((record_judged c r).number or_else no_room l m) (record_judged c r) l m
