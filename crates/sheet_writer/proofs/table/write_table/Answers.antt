-- `sheet_writer::table::write_table` meets its contract: refused by its number or for room, or the table behind its fields.
-- Assumes nothing.
use Prim.Native.Nat.{ℕ, ◌≤◌}
use native.Mathlib.Omega.{arith}
use mathlib.Core.List.{List, []}
use mathlib.Core.Path.{◌≡◌, refl, sym, ap}
use lib.ListN.{length}
use Rattle.answer.specs.Outcome.Laws.{or_else-zero-left, or_else-zero-right}
use Rattle.sheet_format.specs.declared.SheetState.{SheetState}
use Rattle.sheet_format.specs.Context.{Heading, no_heading, Context, state_of, context_of}
use Rattle.sheet_format.specs.Context.Laws.{state_of-context_of}
use Rattle.sheet_format.specs.Kind.Table.{table_place, table_kind}
use Rattle.sheet_format.specs.Kind.Table.Laws.{table-most, table-lawful}
use Rattle.std.proofs.lemmas.Result.{err_from_is_err_and}
use Rattle.sheet_format.specs.Writing.{not_written}
use Rattle.sheet_writer.specs.BeforeRoom.{before_room}
use Rattle.sheet_writer.proofs.Frame.{all-copied, frame_refused, frame-full, frame-passed, frame-done}
use Rattle.sheet_writer.proofs.table.Laws.{table-frame}
use Rattle.sheet_writer.proofs.table.write_table.Goals as goal

-- by any one sheet that the state is kept of
most : (b : List ℕ) {st : SheetState} → ((x : Context) (h : Heading) → state_of x ≡ st → 0 ≡ before_room table_kind h x b)
    → length b ≤ 32772
most b {st} is =
    let x = context_of [] st in
    table-most b (or_else-zero-right (table_place x no_heading) _ (sym (is x no_heading (state_of-context_of [] st))))

pub returns-in_err-judge : goal.returns-in_err-judge
returns-in_err-judge c = λ x h is.
    let p = err_from_is_err_and c.from_residual.result c.from_residual.ensures.1 in
    rw (p.1, p.2) (frame_refused (table-frame h x c.args.content.now) c.args.out.now c.in_err-judge.field-0.0.number
    (c.in_err-judge.ensures.number x h is) (λ e. omega (arith, c.in_err-judge.ensures.some)) refl)

pub returns-then-out-record_bytes : goal.returns-then-out-record_bytes
returns-then-out-record_bytes c = λ x h is.
    let a = c.args in
    frame-full (table-frame h x a.content.now) a.out.now (sym (c.in_ok-judge.ensures.number x h is)) c.if-out-record_bytes.true
    (ap not_written c.into.ensures)

pub overflow_cast-record_bytes : goal.overflow_cast-record_bytes
overflow_cast-record_bytes c = omega (arith, most c.args.content.now c.in_ok-judge.ensures.number)

pub overflow_cast-result : goal.overflow_cast-result
overflow_cast-result c = omega (arith, most c.args.content.now c.in_ok-judge.ensures.number)

pub returns : goal.returns
returns c = λ x h is.
    let a = c.args in
    let frame = table-frame h x a.content.now in
    let m = a.out.now in
    let passed : before_room table_kind h x a.content.now ≡ 0 = sym (c.in_ok-judge.ensures.number x h is) in
    let first = table-lawful.table-placed refl x h (or_else-zero-left (table_place x h) _ passed) in
    frame-done frame m (frame-passed frame m passed c.if-out-record_bytes.false) (omega arith)
    (c.after_table.ensures x h a.content.now is first) refl c.copy.new.to
    c.put_record_fields.new.out (all-copied a.content.now _ _ c.copy.ensures)
    c.put_record_fields.ensures
