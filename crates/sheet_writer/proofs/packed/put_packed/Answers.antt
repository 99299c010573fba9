-- `sheet_writer::packed::put_packed` meets its contract: refused by its place, by packing or because the fields have no
-- room, or the words behind the fields. Assumes nothing.
use Prim.Native.Nat.{ℕ, min}
use native.Mathlib.Omega.{arith}
use mathlib.Core.List.{List}
use mathlib.Core.Path.{◌≡◌, ◌∙◌, sym, ap}
use Rattle.bitstream.specs.Bits.{words_for}
use Rattle.bitstream.specs.Memory.Part.{part_from}
use lib.ListN.{length}
use Rattle.answer.specs.declared.Answer.{Answer}
use Rattle.answer.specs.Outcome.{outcome}
use Rattle.answer.specs.Refusal.Laws.{refusal_not_done}
use Rattle.answer.specs.Outcome.Laws.{given-first}
use Rattle.row_format.specs.Calls.{packed}
use Rattle.sheet_format.specs.declared.SheetState.{SheetState}
use Rattle.sheet_format.specs.Context.{Heading, Context, state_of, context_of}
use Rattle.sheet_format.specs.Context.Laws.{state_of-context_of}
use Rattle.sheet_format.specs.Kind.Row.{row_place}
use Rattle.sheet_format.specs.Kind.Row.Laws.{row_place-small}
use Rattle.std.proofs.lemmas.Result.{err_from_is_err_and}
use Rattle.sheet_format.specs.Writing.{not_written}
use Rattle.sheet_writer.proofs.Frame.{err-answer, frame_refused}
use Rattle.sheet_writer.proofs.packed.Laws.{Ran, table-lent, packed-frame, pack-refused, pack-short, pack-few, pack-done}
use Rattle.sheet_writer.proofs.packed.put_packed.Goals as goal

-- what holds when packing has run on the memory m
ran : (row : ℕ) (tb m : List ℕ) {st : SheetState} {x : List ℕ} {start : ℕ} {r : Answer} {y : List ℕ}
    → ((c : Context) → state_of c ≡ st → 0 ≡ row_place c (record { row = row })) → start ≡ min 10 (length m)
    → outcome r y ≡ packed tb x (part_from start m)
    → Ran (record { row = row }) (context_of tb st) x m start r y
ran row tb m {st} {x} {start} is where-from packs =
    let h : Heading = record { row = row } in
    let placed : row_place (context_of tb st) h ≡ 0 = sym (is (context_of tb st) (state_of-context_of tb st)) in
    record {
      placed = placed;
      place = where-from;
      packs = packs ∙ ap (λ (t : List ℕ). packed t x (part_from start m)) (sym (table-lent tb st h placed));
    }

pub returns-in_err-row_place : goal.returns-in_err-row_place
returns-in_err-row_place c = let is = state_of-context_of c.args.table.now c.args.state in
    frame_refused (packed-frame (record { row = c.args.row }) (context_of c.args.table.now c.args.state) c.args.content.now)
    c.args.out.now _
    (given-first _ _ (c.in_err-row_place.ensures (context_of c.args.table.now c.args.state) is)
    (λ e. omega (arith, refusal_not_done c.in_err-row_place.field-0.0)))
    (λ e. omega (arith, refusal_not_done c.in_err-row_place.field-0.0))
    (err-answer c.from_residual.result c.from_residual.ensures.1)

pub returns-in_err-bits : goal.returns-in_err-bits
returns-in_err-bits c = let p = err_from_is_err_and c.from_residual-in_err-bits.result c.from_residual-in_err-bits.ensures.1 in
    let refused = c.in_err-bits.ensures in
    rw (p.1, p.2)
    (pack-refused
    (ran c.args.row c.args.table.now c.args.out.now c.in_ok-row_place.ensures c.min-start.ensures c.pack_known.ensures)
    (λ e. omega (arith, refused.0, refused.1)) (ap not_written (sym refused.0)))

pub returns-then-start-lt-ROW_FIELD_BYTES : goal.returns-then-start-lt-ROW_FIELD_BYTES
returns-then-start-lt-ROW_FIELD_BYTES c = pack-short
    (ran c.args.row c.args.table.now c.args.out.now c.in_ok-row_place.ensures c.min-start.ensures c.pack_known.ensures)
    c.in_ok-bits.ensures.0 c.if-start-lt-ROW_FIELD_BYTES.true (ap not_written c.into.ensures)

pub overflow_cast-pixels : goal.overflow_cast-pixels
overflow_cast-pixels c = omega (
  arith,
  pack-few
      (ran c.args.row c.args.table.now c.args.out.now c.in_ok-row_place.ensures c.min-start.ensures c.pack_known.ensures)
      c.in_ok-bits.ensures.0,
)

pub after_row-requires : goal.after_row-requires
after_row-requires c = row_place-small (context_of c.args.table.now c.args.state) (record { row = c.args.row })
    (sym (c.in_ok-row_place.ensures (context_of c.args.table.now c.args.state) (state_of-context_of c.args.table.now c.args.state)))

pub returns : goal.returns
returns c =
    let after =
    c.after_row.ensures (context_of c.args.table.now c.args.state) c.args.content.now
    (state_of-context_of c.args.table.now c.args.state) in
    let words : c.div_ceil-words.result ≡ words_for c.pack_known.result.count = omega (arith, c.div_ceil-words.ensures, c.in_ok-bits.ensures.1) in
    pack-done
    (ran c.args.row c.args.table.now c.args.out.now c.in_ok-row_place.ensures c.min-start.ensures c.pack_known.ensures)
    c.in_ok-bits.ensures.0 c.if-start-lt-ROW_FIELD_BYTES.false after (rw words)
    c.put_row_fields.new.out (rw words at c.put_row_fields.ensures)
