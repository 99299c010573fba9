-- The laws of a step: what it says of the record that was read, and how a loop goes on. Assumes nothing.
use Rattle.std.specs.Prelude.{ℕ, ◌+◌, ◌≤◌, ◌<◌, ◌≡◌, refl, true, false, List, [], ◌∷◌, ◌++◌, length, take}
use Rattle.std.proofs.Common.{arith, sym, ap, ◌∙◌, take_at}
use Rattle.answer.specs.Outcome.{Outcome, outcome, writes, lent}
use Rattle.row_format.specs.Lists.Laws.{true-false}
use Rattle.row_format.specs.Place.Laws.{place_shown-zero}
use Rattle.sheet_format.specs.declared.RecordRead.{RecordRead}
use Rattle.sheet_format.specs.Context.{Context, new_sheet}
use Rattle.sheet_format.specs.Record.{record_number}
use Rattle.sheet_format.specs.Reading.{answer_bytes, refused_record, record_content, record_judged, record_read}
use Rattle.sheet_format.specs.Reading.Laws.{record_judged-number, judged-held, record_read-done}
use Rattle.sheet_format.specs.Sheet.{SheetRecord, record_here, records, sheet_read}
use Rattle.sheet_format.specs.Stream.{
  held_of,
  holds_of,
  rows_of,
  Carried,
  context_by,
  carried_next,
  Next,
  ended,
  more,
  end_number,
  next_of,
  Carries,
}
use Rattle.sheet_format.proofs.Stream.Held.{held-short}
use Rattle.sheet_format.proofs.Stream.Laws.{goes_on, next_of-end, next_of-refused, next_of-accepted, next_of-goes-on}
use Rattle.sheet_format.proofs.Stream.Taken.{carries-records, carries-more, carries-ended}
use Rattle.sheet_format.proofs.Theorems.{record-length, read-judged}
use Rattle.sheet_format.proofs.Theorems.Room.{record_number-enough, content-bytes}
use Rattle.sheet_stream.specs.declared.progress.SheetProgress.{SheetProgress}
use Rattle.sheet_stream.specs.declared.step.SheetStep.{SheetStep}
use Rattle.sheet_stream.specs.Progress.{carried_by, table_after, carried_after, Underway}
use Rattle.sheet_stream.specs.Progress.Laws.{carried-after}
use Rattle.sheet_stream.specs.Step.{record_by, end_step, StepMade}

-- ---- an accepted record, read with room for every content
module _ (c : Context) (r m : List ℕ) (room : 16384 ≤ length m) (ok : (record_judged c r).number ≡ 0) where
  number-none : record_number (lent (length m)) c r ≡ 0
  number-none = record_number-enough (length m) room c r ∙ sym (record_judged-number c r) ∙ ok

  content-there : record_read c r m ≡ writes (record_judged c r) (record_content c r) m
  content-there = rw (judged-held c r ok) (record_read-done c r m number-none)

  content-size : length (record_content c r) ≡ answer_bytes (record_judged c r)
  content-size = rw (judged-held c r ok) (content-bytes c r m number-none).0

-- ---- what reading the record r answered and left
module _ (p : Carried) (r m : List ℕ) (room : 16384 ≤ length m) {a : RecordRead} {y : List ℕ}
    (read : outcome a y ≡ record_read (context_by p) r m) where
  read_is : a ≡ record_judged (context_by p) r
  read_is = ap (λ (o : Outcome RecordRead). o.answer) read ∙ read-judged (context_by p) r m room

  same_number : a.number ≡ (record_judged (context_by p) r).number
  same_number = ap (λ (x : RecordRead). x.number) read_is

  next-refused : 0 < length r → (a.number ≡ 0 → ⊥) → ended a.number a.at ≡ next_of p r
  next-refused some wrong =
      ap (λ (x : RecordRead). ended x.number x.at) read_is
      ∙ sym (next_of-refused p r some (λ e. wrong (same_number ∙ e)))

  module _ (ok : a.number ≡ 0) where
    fine : (record_judged (context_by p) r).number ≡ 0
    fine = sym same_number ∙ ok

    pub read_length : (6 ≤ a.length) × (a.length ≤ 32778) × (a.length ≤ length r)
    read_length = rw read_is (record-length (context_by p) r fine)

    content-is : take (answer_bytes a) y ≡ record_content (context_by p) r
    content-is =
        let memory = ap (λ (o : Outcome RecordRead). o.memory) (read ∙ content-there (context_by p) r m room fine) in
        rw (memory, read_is) (take_at (record_content (context_by p) r) _ _ (content-size (context_by p) r m room fine))

    next-accepted : {q : Carried} → q ≡ carried_after p a r → more (record_by a r y) q ≡ next_of p r
    next-accepted is-next =
        rw (is-next, content-is, carried-after p r read_is fine, read_is) (sym (next_of-accepted p r fine))

-- ---- the step that is made
-- nothing is left to read
pub end-made : (at : SheetProgress) (table content bytes : List ℕ) {s : SheetStep} {a : RecordRead} {n : ℕ} → n ≡ end_number at.index
    → a ≡ refused_record 0 n → s ≡ end_step 0 a at → StepMade (take s.taken bytes) at table s table content
end-made at table content bytes {s} {a} {n} is_number is_read is-step =
    rw (is-step, is_read, is_number) (record {
      held = held-short [] (omega arith);
      made = rw (place_shown-zero (end_number at.index)) (sym (next_of-end (carried_by at table)));
      still = λ e. (refl, refl);
    })

module _ (at : SheetProgress) (table r m : List ℕ) (held : r ≡ held_of r) (room : 16384 ≤ length m) {a : RecordRead} {y : List ℕ}
    (read : outcome a y ≡ record_read (context_by (carried_by at table)) r m) where
  -- the record is refused, whatever stands in the memory for its content
  pub refused-made : {s : SheetStep} {n : ℕ} {content : List ℕ} → 0 < length r → (a.number ≡ 0 → ⊥) → s ≡ end_step n a at
      → StepMade r at table s table content
  refused-made some wrong is-step =
      rw is-step (record {
        held = held;
        made = next-refused (carried_by at table) r m room read some wrong;
        still = λ e. (refl, refl);
      })

  -- it is accepted, and this is carried on
  pub after-made : {table' : List ℕ} {next : SheetProgress} {n : ℕ} (ok : a.number ≡ 0)
      → carried_by next table' ≡ carried_after (carried_by at table) a r
      → StepMade r at table (record { last = false; taken = n; read = a; next = next }) table' y
  after-made ok is-next =
      record {
        held = held;
        made = next-accepted (carried_by at table) r m room read ok is-next;
        still = λ e. true-false e refl;
      }

  -- the same, of the parts: its table is kept and its row counted
  pub accepted-made : {table' : List ℕ} {kept rows n : ℕ} (ok : a.number ≡ 0)
      → take kept table' ≡ table_after a (take at.kept table) r
      → rows ≡ at.rows + rows_of (holds_of a)
      → (let next : SheetProgress = record { state = a.state; kept = kept; index = at.index + 1; rows = rows } in
      let s : SheetStep = record { last = false; taken = n; read = a; next = next } in
      StepMade r at table s table' y)
  accepted-made ok is-table is-rows = after-made ok (rw (is-table, is-rows) refl)

-- ---- how a loop goes on
abbrev record_in : Next → SheetRecord → SheetRecord
record_in (ended e at) x = x
record_in (more x q) y = x

abbrev carried_in : Next → Carried → Carried
carried_in (ended e at) p = p
carried_in (more x q) p = q

module _ {b : List ℕ} {p : SheetProgress} {table : List ℕ} {s : SheetStep} {table' content' : List ℕ}
    (step : StepMade b p table s table' content') where
  -- the sheet ends here
  module _ (last : s.last ≡ true) where
    pub step-ended : next_of (carried_by p table) b ≡ ended s.read.number s.read.at
    step-ended = sym step.made ∙ rw last

    -- and this is what it comes to, after the bytes t
    pub step-sheet : {t : List ℕ} → Carries t (carried_by p table)
        → sheet_read (t ++ b) ≡ record { records = (records new_sheet t).records; number = s.read.number; place = s.read.at }
    step-sheet at = carries-ended at b step-ended

  -- a record comes
  module _ (on : s.last ≡ false) where
    step-more : next_of (carried_by p table) b ≡ more (record_by s.read b content') (carried_by s.next table')
    step-more = sym step.made ∙ rw on

    pub step-accepted : (record_judged (context_by (carried_by p table)) b).number ≡ 0
    step-accepted = next_of-goes-on (carried_by p table) b (ap goes_on step-more)

    both : more (record_by s.read b content') (carried_by s.next table')
        ≡ (let c = carried_by p table in more (record_here (context_by c) b) (carried_next c b (record_judged (context_by c) b)))
    both = sym step-more ∙ next_of-accepted (carried_by p table) b step-accepted

    -- it is the record that stands there
    pub step-record : record_by s.read b content' ≡ record_here (context_by (carried_by p table)) b
    step-record = ap (λ n. record_in n (record_by s.read b content')) both

    pub step-read : s.read ≡ record_judged (context_by (carried_by p table)) b
    step-read = ap (λ (x : SheetRecord). x.answer) step-record

    pub step-content : take (answer_bytes s.read) content' ≡ record_content (context_by (carried_by p table)) b
    step-content = ap (λ (x : SheetRecord). x.content) step-record

    step-next : carried_by s.next table' ≡ carried_next (carried_by p table) b (record_judged (context_by (carried_by p table)) b)
    step-next = ap (λ n. carried_in n (carried_by s.next table')) both

    pub next-index : s.next.index ≡ p.index + 1
    next-index = ap (λ (x : Carried). x.index) step-next

    pub step-state : s.next.state ≡ s.read.state
    step-state = ap (λ (x : Carried). x.state) step-next ∙ ap (λ (x : RecordRead). x.state) (sym step-read)

    -- after the bytes t it is one more, and what is carried on is carried after it
    pub step-records : {t : List ℕ} → Carries t (carried_by p table)
        → (records new_sheet (t ++ b)).records ≡ (records new_sheet t).records ++ (record_by s.read b content' ∷ [])
    step-records at = rw step-record (carries-records at b step.held step-accepted)

    pub step-carries : {t : List ℕ} → Carries t (carried_by p table) → Carries (t ++ b) (carried_by s.next table')
    step-carries at = rw step-next (carries-more at b step.held step-accepted)

    pub underway-next : Underway (carried_by p table) → Underway (carried_by s.next table')
    underway-next at = record { taken = at.taken ++ b; carries = step-carries at.carries }
