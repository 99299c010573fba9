-- The first pass: at the start, behind each record, and what it comes to at the end. Assumes nothing.
use Rattle.std.specs.Prelude.{ℕ, ◌+◌, ◌*◌, ◌/◌, ◌≤◌, max, ◌≡◌, refl, true, false, List, [], ◌∷◌, ◌++◌, length, take}
use Rattle.std.proofs.Common.{arith, sym, ◌∙◌, length-append, length-take, length-take-le}
use Rattle.std.proofs.Math.Path.{ap}
use Rattle.std.proofs.Math.ListN.{drop}
use Rattle.std.proofs.Math.Seq.{drop_at}
use borrow.Author.Tests.{eq-eqb, ne_eqb}
use Rattle.bitstream.specs.Bits.{bits_of, halves_of}
use Rattle.bitstream.specs.Bits.Laws.{length_cut}
use Rattle.row_format.specs.Lists.Laws.{by-test, true-false}
use Rattle.sheet_format.specs.Context.{new_sheet}
use Rattle.sheet_format.specs.Kind.{Payload, a_table, a_row, a_line, no_payload, is_row}
use Rattle.sheet_format.specs.Record.{record_span}
use Rattle.sheet_format.specs.Reading.{answer_bytes, record_judged}
use Rattle.sheet_format.specs.Sheet.{SheetRecord, row_of, stored_rows, records, sheet_read}
use Rattle.sheet_format.specs.Sheet.Laws.{records-end}
use Rattle.sheet_format.specs.Stream.{held_of, holds_of, Carried, context_by, next_of}
use Rattle.sheet_format.proofs.Stream.Laws.{next_of-held, is_row-row}
use Rattle.sheet_format.proofs.Stream.Settled.{stored_rows-append}
use Rattle.sheet_format.proofs.Stream.Taken.{carries-none, carries-ended}
use Rattle.sheet_format.proofs.Theorems.Locality.{span-whole}
use Rattle.sheet_format.proofs.Theorems.Rows as rows
use Rattle.sheet_format.specs.Size.{rows_width, rows_height}
use Rattle.sheet_format.specs.Size.Laws.{width-more, height-more}
use Rattle.sheet_stream.specs.declared.progress.SheetProgress.{SheetProgress}
use Rattle.sheet_stream.specs.declared.step.SheetStep.{SheetStep}
use Rattle.sheet_stream.specs.Progress.{carried_by}
use Rattle.sheet_stream.specs.Progress.Laws.{progress_first}
use Rattle.sheet_stream.specs.Step.{record_by, StepMade}
use Rattle.sheet_stream.specs.Step.Laws.{step-ended, step-accepted, step-read, step-records, step-carries}
use Rattle.sheet_stream.specs.Step.Rows.{rowless-next, rowless-same, row-least, row_small, row_next, row_count}
use Rattle.sheet_verdict.specs.Verdict.{SheetEnds}
use Rattle.sheet_picture.specs.Extent.{records_length, sheet_extent}
use Rattle.draw_sheet.specs.declared.measured.Measured.{Measured}
use Rattle.draw_sheet.specs.Measure.{width_with, Passing, PassEnds, BrokenBy, Measures}

-- ---- the bytes of records
size-more : (xs : List SheetRecord) (x : SheetRecord) → records_length (xs ++ (x ∷ [])) ≡ records_length xs + length x.bytes
unfolding records_length
size-more [] x = omega arith
size-more (y ∷ xs) x = omega (arith, size-more xs x)

-- ---- the widest row, with a record that holds one and with one that holds none
pub width-row : (s : Payload) (w n : ℕ) → is_row s ≡ true → width_with s w n ≡ max w n
width-row a_table w n is = true-false is refl
width-row a_row w n is = refl
width-row a_line w n is = true-false is refl
width-row no_payload w n is = true-false is refl

pub width-rowless : (s : Payload) (w n : ℕ) → is_row s ≡ false → width_with s w n ≡ w
width-rowless a_table w n other = refl
width-rowless a_row w n other = true-false refl other
width-rowless a_line w n other = refl
width-rowless no_payload w n other = refl

-- ---- at the start
pub passing-first : (table : List ℕ) → Passing (carried_by progress_first table) 0
unfolding stored_rows rows_width rows_height records_length
passing-first table =
    record {
      taken = [];
      carries = carries-none;
      size = rw (records-end new_sheet);
      width = rw (records-end new_sheet);
      height = rw (records-end new_sheet);
      wide = omega arith;
      tall = omega arith;
    }

-- ---- behind a record
module _ {b : List ℕ} {p : SheetProgress} {table : List ℕ} {s : SheetStep} {table' content' : List ℕ}
    (step : StepMade b p table s table' content') (room : 8192 ≤ length content') {w : ℕ} (at : Passing (carried_by p table) w) where
  module _ (on : s.last ≡ false) where
    -- all that is held is the record
    held_all : length (take s.read.length b) ≡ length b
    held_all =
        let span = span-whole b (context_by (carried_by p table)) (step-accepted step on) in
        let held = ap length step.held ∙ length-take (record_span b) b in
        let judged = record_judged (context_by (carried_by p table)) b in
        rw (step-read step on) (omega (arith, length-take judged.length b, span, held))

    size-next : records_length (records new_sheet (at.taken ++ b)).records ≡ length (at.taken ++ b)
    size-next =
        let xs = (records new_sheet at.taken).records in
        let more = size-more xs (record_by s.read b content') in
        rw (step-records step on at.carries) (omega (arith, more, at.size, held_all, length-append at.taken b))

    module _ (row : is_row (holds_of s.read) ≡ true) where
      rows_next : stored_rows (records new_sheet (at.taken ++ b)).records
          ≡ stored_rows (records new_sheet at.taken).records ++ (row_of (record_by s.read b content') ∷ [])
      unfolding stored_rows
      rows_next =
          let xs = (records new_sheet at.taken).records in
          ap stored_rows (step-records step on at.carries) ∙ stored_rows-append xs (record_by s.read b content' ∷ [])
          ∙ rw (is_row-row (holds_of s.read) row)

      heights-count : length (halves_of (take (answer_bytes s.read) content')) ≡ s.read.count
      heights-count =
          let is_row = ap holds_of (sym (step-read step on)) ∙ is_row-row (holds_of s.read) row in
          let each : answer_bytes s.read ≡ 2 * s.read.count =
          rw (step-read step on) (rows.row-bytes _ b (step-accepted step on) is_row) in
          let few = row_count step on row in
          let x = take (answer_bytes s.read) content' in
          let size : length x ≡ answer_bytes s.read = length-take-le (answer_bytes s.read) content' (omega arith) in
          length_cut 16 (length x / 2) (bits_of x) ∙ omega arith

      passing-row : Passing (carried_by s.next table') (max w s.read.count)
      passing-row =
          let ys = stored_rows (records new_sheet at.taken).records in
          let y = row_of (record_by s.read b content') in
          let next = row_next step on row in
          record {
            taken = at.taken ++ b;
            carries = step-carries step on at.carries;
            size = size-next;
            width = rw rows_next (omega (arith, width-more ys y, at.width, heights-count));
            height = rw rows_next (omega (arith, height-more ys y, at.height, next, row-least step on row));
            wide = omega (arith, at.wide, row_count step on row);
            tall = omega (arith, next, row_small step on row);
          }

    passing-rowless : is_row (holds_of s.read) ≡ false → Passing (carried_by s.next table') w
    passing-rowless other =
        let same = rowless-next step on other at.carries in
        record {
          taken = at.taken ++ b;
          carries = step-carries step on at.carries;
          size = size-next;
          width = rw (rowless-same step on other at.carries) at.width;
          height = rw (rowless-same step on other at.carries, same) at.height;
          wide = at.wide;
          tall = rw same at.tall;
        }

    pub passing-next : {w' : ℕ} → w' ≡ width_with (holds_of s.read) w s.read.count → Passing (carried_by s.next table') w'
    passing-next is =
        by-test (is_row (holds_of s.read))
        (λ row. rw (is, width-row (holds_of s.read) w s.read.count row) (passing-row row))
        (λ other. rw (is, width-rowless (holds_of s.read) w s.read.count other) (passing-rowless other))

  pub pass-ends : s.last ≡ true → PassEnds b (carried_by s.next table') w s.read.number s.read.at
  pass-ends last =
      rw ((step.still last).0, (step.still last).1) (record { passing = at; held = step.held; ends = step-ended step last })

-- ---- what it comes to
module _ {b : List ℕ} {p : Carried} {w e bit : ℕ} (end : PassEnds b p w e bit) where
  abbrev t : List ℕ
  t = end.passing.taken

  read_is : (r : List ℕ) → held_of r ≡ b
      → sheet_read (t ++ r) ≡ record { records = (records new_sheet t).records; number = e; place = bit }
  read_is r held = carries-ended end.passing.carries r (sym (next_of-held p r) ∙ ap (next_of p) held ∙ end.ends)

  -- the sheet is accepted
  pub measures-whole : e ≡ 0 → Measures (max 1 w) (max 1 p.state.least_row)
  unfolding sheet_extent
  measures-whole ok =
      let at = end.passing in
      record { sheet = t ++ b; extent = rw (read_is b (sym end.held), eq-eqb e 0 ok, at.width, at.height) }

  -- it is refused, and the records behind the fault claim some rows
  pub measures-broken : (e ≡ 0 → ⊥) → {m : Measured} → BrokenBy b w p.state.least_row m → Measures m.width m.height
  unfolding sheet_extent
  measures-broken wrong m =
      let at = end.passing in
      let claims = m.claims in
      let rest : drop (records_length (records new_sheet t).records) (t ++ claims.behind) ≡ claims.behind =
      drop_at t claims.behind _ (sym at.size) in
      rw (m.width, m.height) (record {
        sheet = t ++ claims.behind;
        extent = rw (read_is claims.behind claims.held, ne_eqb e 0 wrong, rest, claims.claimed, at.width, at.height);
      })

-- and its verdict
pub pass-said : (table : List ℕ) {b : List ℕ} {s : SheetStep} {w : ℕ}
    → PassEnds b (carried_by s.next table) w s.read.number s.read.at → SheetEnds b s
pass-said table {s = s} end =
    record {
      taken = end.passing.taken;
      carried = carried_by s.next table;
      carries = end.passing.carries;
      whole = end.held;
      ends = end.ends;
      index = refl;
      rows = refl;
    }
