-- `sheet_writer::line::write_line` meets its contract: refused by its number or for room, or the numbers behind the fields.
-- Assumes nothing.
use Prim.Native.Nat.{ℕ, ◌/◌, ◌+◌, ◌≤◌}
use native.Mathlib.Omega.{arith}
use mathlib.Core.List.{List, []}
use mathlib.Core.Path.{◌≡◌, ap, sym}
use lib.ListN.{length}
use Rattle.answer.specs.Refusal.Laws.{refusal_not_done}
use Rattle.answer.specs.Outcome.Laws.{or_else-zero-right}
use Rattle.sheet_format.specs.declared.SheetState.{SheetState}
use Rattle.sheet_format.specs.Context.{Heading, no_heading, Context, state_of, context_of}
use Rattle.sheet_format.specs.Context.Laws.{state_of-context_of}
use Rattle.sheet_format.specs.Line.{line_bytes}
use Rattle.sheet_format.specs.Kind.ContourLine.{given_numbers, line_place, line_kind}
use Rattle.sheet_format.specs.Writing.{not_written}
use Rattle.sheet_writer.specs.BeforeRoom.{before_room}
use Rattle.sheet_writer.proofs.Frame.{err-answer, frame_refused, frame-full, frame-passed, frame-done}
use Rattle.sheet_writer.proofs.line.Laws.{line_frame, line-few, line-most}
use Rattle.sheet_writer.proofs.line.write_line.Goals as goal

-- by any one sheet that the state is kept of
few : (b : List ℕ) {st : SheetState} → ((x : Context) (h : Heading) → state_of x ≡ st → 0 ≡ before_room line_kind h x b)
    → length b / 4 ≤ 4096
few b {st} is =
    let x = context_of [] st in
    line-few no_heading x b
    (or_else-zero-right (line_place x no_heading) _ (sym (is x no_heading (state_of-context_of [] st))))

most : (b : List ℕ) {st : SheetState} → ((x : Context) (h : Heading) → state_of x ≡ st → 0 ≡ before_room line_kind h x b)
    → {n : ℕ} → n ≡ length (line_bytes (given_numbers b)) → n ≤ 20480
most b is size = omega (arith, line-most b (few b is))

pub returns-in_err-judge : goal.returns-in_err-judge
returns-in_err-judge c = λ x h is.
    frame_refused (line_frame h x c.args.content.now) c.args.out.now _ (c.in_err-judge.ensures x h is)
    (λ e. omega (arith, refusal_not_done c.in_err-judge.field-0.0)) (err-answer c.from_residual.result c.from_residual.ensures.1)

pub line_bytes-record_bytes-requires : goal.line_bytes-record_bytes-requires
line_bytes-record_bytes-requires c = few c.args.content.now c.in_ok-judge.ensures

pub overflow_add-record_bytes : goal.overflow_add-record_bytes
overflow_add-record_bytes c = omega (arith, most c.args.content.now c.in_ok-judge.ensures c.line_bytes-record_bytes.ensures)

pub returns-then-out-record_bytes : goal.returns-then-out-record_bytes
returns-then-out-record_bytes c = λ x h is.
    let a = c.args in
    frame-full (line_frame h x a.content.now) a.out.now (sym (c.in_ok-judge.ensures x h is))
    (omega (arith, c.line_bytes-record_bytes.ensures, c.if-out-record_bytes.true)) (ap not_written c.into.ensures)

pub overflow_cast-numbers : goal.overflow_cast-numbers
overflow_cast-numbers c = omega (arith, few c.args.content.now c.in_ok-judge.ensures)

pub overflow_cast-record_bytes : goal.overflow_cast-record_bytes
overflow_cast-record_bytes c = omega (arith, most c.args.content.now c.in_ok-judge.ensures c.line_bytes-record_bytes.ensures)

pub overflow_cast-result : goal.overflow_cast-result
overflow_cast-result c = omega (arith, most c.args.content.now c.in_ok-judge.ensures c.line_bytes-record_bytes.ensures)

pub returns : goal.returns
returns c = λ x h is.
    let a = c.args in
    let frame = line_frame h x a.content.now in
    let m = a.out.now in
    let fits : 8 + length (line_bytes (given_numbers a.content.now)) ≤ length m =
    omega (arith, c.line_bytes-record_bytes.ensures, c.if-out-record_bytes.false) in
    frame-done frame m (frame-passed frame m (sym (c.in_ok-judge.ensures x h is)) fits) (omega arith) (sym is)
    (rw (← c.line_bytes-record_bytes.ensures)) c.put_numbers.new.out
    c.put_line_fields.new.out c.put_numbers.ensures
    (rw c.line_bytes-record_bytes.ensures at c.put_line_fields.ensures)
