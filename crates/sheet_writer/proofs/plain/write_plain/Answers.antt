-- `sheet_writer::plain::write_plain` meets its contract: refused by its number or for room, or the pixels behind the fields.
-- Assumes nothing.
use Prim.Native.Nat.{ℕ, ◌/◌, ◌+◌, ◌≤◌, ◌<◌}
use native.Mathlib.Omega.{arith}
use mathlib.Core.List.{List, [], ◌++◌}
use mathlib.Core.Path.{◌≡◌, ap, ◌∙◌, sym}
use lib.ListN.{length, drop}
use Rattle.bitstream.specs.Memory.Part.{part_from}
use Rattle.answer.specs.Refusal.Laws.{refusal_not_done}
use Rattle.answer.specs.Outcome.Laws.{or_else-zero-left, or_else-zero-right}
use Rattle.sheet_format.specs.declared.SheetState.{SheetState}
use Rattle.sheet_format.specs.Context.{Heading, Context, state_of, context_of}
use Rattle.sheet_format.specs.Context.Laws.{state_of-context_of}
use Rattle.sheet_format.specs.Kind.Row.{row_place}
use Rattle.sheet_format.specs.Kind.Row.Laws.{row_place-small}
use Rattle.sheet_format.specs.Kind.PlainRow.{plain_kind}
use Rattle.sheet_format.specs.Writing.{not_written}
use Rattle.sheet_writer.specs.BeforeRoom.{before_room}
use Rattle.sheet_writer.proofs.Frame.{err-answer, frame_refused, frame-full, frame-passed, frame-done}
use Rattle.sheet_writer.proofs.plain.Laws.{whole_pixels, length-whole_pixels, plain-frame, plain-few}
use Rattle.sheet_writer.proofs.plain.write_plain.Goals as goal

-- by any one sheet that the state is kept of
passed-any : (row : ℕ) (b : List ℕ) (st : SheetState)
    → ((x : Context) → state_of x ≡ st → 0 ≡ before_room plain_kind (record { row = row }) x b)
    → before_room plain_kind (record { row = row }) (context_of [] st) b ≡ 0
passed-any row b st is = sym (is (context_of [] st) (state_of-context_of [] st))

few : (row : ℕ) (b : List ℕ) {st : SheetState}
    → ((x : Context) → state_of x ≡ st → 0 ≡ before_room plain_kind (record { row = row }) x b)
    → length b / 2 ≤ 4096
few row b {st} is =
    let h : Heading = record { row = row } in
    let x = context_of [] st in
    plain-few h x b (or_else-zero-right (row_place x h) _ (passed-any row b st is))

small : (row : ℕ) (b : List ℕ) {st : SheetState}
    → ((x : Context) → state_of x ≡ st → 0 ≡ before_room plain_kind (record { row = row }) x b)
    → row < 65536
small row b {st} is =
    let h : Heading = record { row = row } in
    let x = context_of [] st in
    row_place-small x h (or_else-zero-left (row_place x h) _ (passed-any row b st is))

pub returns-in_err-judge : goal.returns-in_err-judge
returns-in_err-judge c = λ x is.
    frame_refused (plain-frame (record { row = c.args.row }) x c.args.content.now) c.args.out.now _
    (c.in_err-judge.ensures x is) (λ e. omega (arith, refusal_not_done c.in_err-judge.field-0.0))
    (err-answer c.from_residual.result c.from_residual.ensures.1)

pub returns-then-out-record_bytes : goal.returns-then-out-record_bytes
returns-then-out-record_bytes c = λ x is.
    let a = c.args in
    frame-full (plain-frame (record { row = c.args.row }) x a.content.now) a.out.now (sym (c.in_ok-judge.ensures x is))
    (omega (arith, length-whole_pixels a.content.now, c.if-out-record_bytes.true)) (ap not_written c.into.ensures)

pub overflow_cast-pixels : goal.overflow_cast-pixels
overflow_cast-pixels c = omega (arith, few c.args.row c.args.content.now c.in_ok-judge.ensures)

pub overflow_cast-record_bytes : goal.overflow_cast-record_bytes
overflow_cast-record_bytes c = omega (arith, few c.args.row c.args.content.now c.in_ok-judge.ensures)

pub overflow_cast-result : goal.overflow_cast-result
overflow_cast-result c = omega (arith, few c.args.row c.args.content.now c.in_ok-judge.ensures)

pub after_row-requires : goal.after_row-requires
after_row-requires c = small c.args.row c.args.content.now c.in_ok-judge.ensures

pub returns : goal.returns
returns c = λ x is.
    let a = c.args in
    let frame = plain-frame (record { row = c.args.row }) x a.content.now in
    let m = a.out.now in
    let fits : 10 + length (whole_pixels a.content.now) ≤ length m =
    omega (arith, length-whole_pixels a.content.now) in
    frame-done frame m (frame-passed frame m (sym (c.in_ok-judge.ensures x is)) fits) (omega arith)
    (c.after_row.ensures x a.content.now is) (rw (length-whole_pixels a.content.now))
    c.copy.new.to
    c.put_row_fields.new.out
    (c.copy.ensures ∙ ap (λ n. whole_pixels a.content.now ++ drop n (part_from 10 m)) (sym (length-whole_pixels a.content.now))) c.put_row_fields.ensures
