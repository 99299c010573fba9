-- The laws of a turn: the line, and how the lister goes on. Assumes nothing.
use Rattle.std.specs.Prelude.{ℕ, ◌+◌, ◌≤◌, ◌<◌, ◌≡◌, refl, true, false, List, [], ◌++◌, length, take, drop, eqb}
use Rattle.std.proofs.Common.{arith, sym, ap, ◌∙◌, length-append, take_at, eqb-true}
use Rattle.std.proofs.lemmas.Bool.{eqb-false}
use Rattle.answer.specs.Outcome.{Outcome, outcome}
use Rattle.row_format.specs.Lists.Laws.{by-test}
use Rattle.sheet_format.specs.declared.RecordRead.{RecordRead}
use Rattle.sheet_format.specs.Reading.{record_judged}
use Rattle.sheet_format.specs.Sheet.{record_here}
use Rattle.sheet_format.specs.Stream.{holds_of, rows_of, Carried, context_by, carried_next, end_number}
use Rattle.sheet_format.proofs.Stream.Held.{held-short}
use Rattle.sheet_format.proofs.Stream.Laws.{next_of-end}
use Rattle.sheet_format.proofs.Stream.Taken.{carries-more}
use Rattle.sheet_format.proofs.Theorems.{record-length}
use Rattle.sheet_listing.specs.declared.ListedRecord.{ListedRecord}
use Rattle.sheet_listing.specs.Line.{record_line, last_line}
use Rattle.sheet_listing.specs.Listed.{LineShort, record_listed}
use Rattle.sheet_listing.specs.Listed.Laws.{listed-refused, record_listed-fits}
use Rattle.sheet_listing.specs.Turns.{Turned, last_turn, turn_for, turn_of, NextLine, EndLine}
use Rattle.sheet_listing.specs.Turns.Laws.{turn_of-refused, turn_of-accepted, turn_of-goes-on}
use Rattle.sheet_listing.specs.Turns.Taken.{end_line}
use Rattle.sheet_stream.specs.declared.progress.SheetProgress.{SheetProgress}
use Rattle.sheet_stream.specs.Progress.{carried_by, table_after, carried_after, Underway}
use Rattle.sheet_stream.specs.Progress.Laws.{carried-after}
use Rattle.list_sheet.specs.declared.turn.Turn.{Turn}
use Rattle.list_sheet.specs.Step.{end_turn, TurnMade}

-- ---- the line
-- the record r was listed in such memory
module _ (p : Carried) (r m : List ℕ) (room : 128 ≤ length m) {x : ListedRecord} {y : List ℕ}
    (listed : outcome x y ≡ record_listed (context_by p) r m)
    (most : LineShort (context_by p) r) where
  line : List ℕ
  line = record_line (record_here (context_by p) r)

  as_fits : (record_judged (context_by p) r).number ≡ 0
      → outcome x y ≡ outcome (record { read = record_judged (context_by p) r; count = length line }) (line ++ drop (length line) m)
  unfolding line
  as_fits ok = listed ∙ record_listed-fits (context_by p) r m ok (omega (arith, most ok))

  as-refused : ((record_judged (context_by p) r).number ≡ 0 → ⊥)
      → outcome x y ≡ outcome (record { read = record_judged (context_by p) r; count = 0 }) m
  as-refused wrong = listed ∙ sym (listed-refused p.table r p.state m (record_judged (context_by p) r) refl wrong)

  pub read_is : x.read ≡ record_judged (context_by p) r
  read_is =
      let number = (record_judged (context_by p) r).number in
      by-test (eqb number 0)
      (λ e. ap (λ (o : Outcome ListedRecord). o.answer.read) (as_fits (eqb-true number 0 e)))
      (λ e. ap (λ (o : Outcome ListedRecord). o.answer.read) (as-refused (eqb-false number 0 e)))

  same_number : x.read.number ≡ (record_judged (context_by p) r).number
  same_number = ap (λ (a : RecordRead). a.number) read_is

  -- it is refused: the last line follows
  pub turn-refused : 0 < length r → (x.read.number ≡ 0 → ⊥) → turn_of p r ≡ last_turn p x.read.at x.read.number
  turn-refused some wrong =
      turn_of-refused p r some (λ e. wrong (same_number ∙ e)) ∙ ap (λ (a : RecordRead). last_turn p a.at a.number) (sym read_is)

  module _ (ok : x.read.number ≡ 0) where
    fine : (record_judged (context_by p) r).number ≡ 0
    fine = sym same_number ∙ ok

    pub read_length : (6 ≤ x.read.length) × (x.read.length ≤ 32778) × (x.read.length ≤ length r)
    read_length = rw read_is (record-length (context_by p) r fine)

    count-is : x.count ≡ length line
    count-is = ap (λ (o : Outcome ListedRecord). o.answer.count) (as_fits fine)

    memory-is : y ≡ line ++ drop (length line) m
    memory-is = ap (λ (o : Outcome ListedRecord). o.memory) (as_fits fine)

    line-is : take x.count y ≡ record_line (record_here (context_by p) r)
    unfolding line
    line-is = rw (count-is, memory-is) (take_at (record_line (record_here (context_by p) r)) _ _ refl)

    pub line-within : x.count ≤ length y
    line-within = omega (arith, count-is, ap length memory-is, length-append line (drop (length line) m))

    -- it is accepted, and this is carried on: the turn that comes after it
    pub turn-after : {next : Carried} → next ≡ carried_after p x.read r
        → record { line = take x.count y; last = false; next = next } ≡ turn_of p r
    turn-after is-next = rw (line-is, is-next, carried-after p r read_is fine) (sym (turn_of-accepted p r fine))

    -- the same, of the parts: its table is kept and its row counted
    pub turn-accepted : {table : List ℕ} {rows : ℕ}
        → table ≡ table_after x.read p.table r
        → rows ≡ p.rows + rows_of (holds_of x.read)
        → (let next : Carried = record { table = table; state = x.read.state; index = p.index + 1; rows = rows } in
        record { line = take x.count y; last = false; next = next })
        ≡ turn_of p r
    turn-accepted is-table is-rows = turn-after (rw (is-table, is-rows) refl)

-- nothing is left to read: the last line follows
pub turn-ended : (p : Carried) → turn_of p [] ≡ last_turn p 0 (end_number p.index)
turn-ended p = ap (turn_for p) (next_of-end p)

pub end-made : {t : Turn} {number : ℕ} {line : List ℕ} (at : SheetProgress) (table bytes : List ℕ) → number ≡ end_number at.index
    → t ≡ end_turn 0 number 0 at
    → take t.count line ≡ last_line number 0 at.index at.rows
    → TurnMade (take t.taken bytes) at table t table line
end-made {t} at table bytes is_number is-turn is-line =
    let none : t.taken ≡ 0 = ap (λ (t : Turn). t.taken) is-turn in
    let last : t.last ≡ true = ap (λ (t : Turn). t.last) is-turn in
    let next : t.next ≡ at = ap (λ (t : Turn). t.next) is-turn in
    record {
      held = rw none (held-short [] (omega arith));
      made = rw (is-line, none, last, next, is_number) (sym (turn-ended (carried_by at table)));
    }

-- ---- from turn to turn
module _ {b : List ℕ} {p : SheetProgress} {table : List ℕ} {t : Turn} {table' line' : List ℕ} (at : Underway (carried_by p table))
    (turn : TurnMade b p table t table' line') where
  -- what is printed is the next line
  pub line-next : NextLine b (take t.count line')
  line-next =
      record {
        taken = at.taken;
        carried = carried_by p table;
        carries = at.carries;
        held = turn.held;
        line = ap (λ (x : Turned). x.line) turn.made;
      }

  -- and after the last turn the last
  pub line-last : t.last ≡ true → EndLine b (take t.count line')
  line-last last =
      end_line at.carries b turn.held (ap (λ (x : Turned). x.line) turn.made)
      (sym (ap (λ (x : Turned). x.last) turn.made) ∙ last)

  module _ (on : t.last ≡ false) where
    accepted : (record_judged (context_by (carried_by p table)) b).number ≡ 0
    accepted = turn_of-goes-on (carried_by p table) b (sym (ap (λ (x : Turned). x.last) turn.made) ∙ on)

    next-is : carried_by t.next table' ≡ carried_next (carried_by p table) b (record_judged (context_by (carried_by p table)) b)
    next-is = ap (λ (x : Turned). x.next) (turn.made ∙ turn_of-accepted (carried_by p table) b accepted)

    pub next-index : t.next.index ≡ p.index + 1
    next-index = ap (λ (x : Carried). x.index) next-is

    pub underway-next : Underway (carried_by t.next table')
    underway-next = record { taken = at.taken ++ b; carries = rw next-is (carries-more at.carries b turn.held accepted) }
