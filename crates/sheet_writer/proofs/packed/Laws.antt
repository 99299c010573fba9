-- The ways out of writing a packed row. Packing goes straight to the words' place behind the fields, or where these have no
-- room to the empty end of the memory. Assumes nothing.
use Prim.Native.Nat.{ℕ, ◌+◌, ◌-◌, ◌*◌, ◌/◌, ◌≤◌, ◌<◌, min}
use native.Mathlib.Omega.{arith}
use native.Mathlib.Decide.{dec_lt}
use mathlib.Core.Path.{◌≡◌, refl, sym, ap, ◌∙◌}
use mathlib.Core.Logic.{by_cases}
use mathlib.Core.List.{List, [], ◌++◌, append-nil}
use lib.ListN.{length, take, drop, length-drop}
use lib.Seq.{take_all}
use lib.Dec.{ltb}
use borrow.Author.Tests.{lt-ltb, le-ltb}
use borrow.Rule.Slice.PartMut.{put_same}
use Rattle.bitstream.specs.Bits.{halves_of, words_of, words_for}
use Rattle.bitstream.specs.Bits.Laws.{length_cut}
use Rattle.bitstream.specs.Memory.Part.{part_from, with_part, part-is, part-back}
use Rattle.answer.specs.declared.Answer.{Answer}
use Rattle.answer.specs.Outcome.{outcome, wrote, ◌or_else◌, refuse_if}
use Rattle.answer.specs.Outcome.Laws.{less_number-none, less_number-given, or_else-assoc, given-first}
use Rattle.row_format.specs.Row.{row_bits, row_bytes}
use Rattle.row_format.specs.Calls.{pack_number, packed, Packable}
use Rattle.row_format.proofs.Calls.Laws.{packable, packed-done, packed-number}
use Rattle.row_format.proofs.Theorems.Memory.{packed-kept, packed-within}
use Rattle.row_pixels.specs.Laws.{length-halves}
use Rattle.sheet_format.specs.declared.SheetState.{SheetState}
use Rattle.sheet_format.specs.declared.RecordWritten.{RecordWritten}
use Rattle.sheet_format.specs.Context.{Heading, Context, table_for, state_of, context_of}
use Rattle.sheet_format.specs.Context.Laws.{tables-context_of, table_for-context_of}
use Rattle.sheet_format.specs.Kind.{a_row, after_record}
use Rattle.sheet_format.specs.Kind.Row.{row_place}
use Rattle.sheet_format.specs.Kind.Row.Laws.{row_place-table}
use Rattle.sheet_format.specs.Kind.PackedRow.{packed_given_number, packed_body}
use Rattle.sheet_format.specs.Writing.{write_number, not_written, record_written}
use Rattle.sheet_writer.specs.Fields.{row_fields}
use Rattle.sheet_writer.specs.Fields.Laws.{length-row_fields, row-fields}
use Rattle.sheet_writer.proofs.Frame.{Frame, refused-number, frame-number, frame-done}

-- the row is in its place, and packing ran on the memory m from start on: its answer is r, and left y there
pub record Ran (h : Heading) (c : Context) (x m : List ℕ) (start : ℕ) (r : Answer) (y : List ℕ) : Type 0 where
  pub placed : row_place c h ≡ 0
  pub place : start ≡ min 10 (length m)
  pub packs : outcome r y ≡ packed (table_for c h) x (part_from start m)

-- in its place a row uses the table that is lent
pub table-lent : (tb : List ℕ) (st : SheetState) (h : Heading) → row_place (context_of tb st) h ≡ 0
    → table_for (context_of tb st) h ≡ tb
table-lent tb st h placed =
    table_for-context_of tb st h (λ none. row_place-table (context_of tb st) h placed (tables-context_of tb st ∙ none))

-- ---- how the record stands
-- the words of the content's pixels under the sheet's table
abbrev given_words : Heading → Context → List ℕ → List ℕ
given_words h c x = row_bytes (words_of (table_for c h)) (halves_of x)

abbrev given_bits : Heading → Context → List ℕ → ℕ
given_bits h c x = length (row_bits (words_of (table_for c h)) (halves_of x))

length-given_words : (h : Heading) (c : Context) (x : List ℕ) → length (given_words h c x) ≡ 4 * words_for (given_bits h c x)
length-given_words h c x = length_cut 8 (4 * words_for (given_bits h c x)) (row_bits (words_of (table_for c h)) (halves_of x))

pub packed-frame : (h : Heading) (c : Context) (x : List ℕ)
    → Frame 2 h c x (row_fields 2 h.row (length x / 2) (10 + length (given_words h c x))) (given_words h c x) 10
unfolding packed_body
packed-frame h c x = record {
  known = refl;
  bytes = rw (length-halves x) (row-fields 2 h.row (length x / 2) (given_words h c x));
  fields = length-row_fields 2 h.row (length x / 2) (10 + length (given_words h c x));
}

-- ---- room for w words behind the fields is room for the record
room-alike : (room w start : ℕ) → start ≡ min 10 room
    → refuse_if (ltb room (10 + 4 * w)) 5 ≡ refuse_if (ltb ((room - start) / 4) w) 5 or_else refuse_if (ltb start 10) 5
room-alike room w start is = by_cases (dec_lt room 10)
    (λ short.
    let none : refuse_if (ltb start 10) 5 ≡ 5 = less_number-given start 10 5 (omega arith) in
    less_number-given room (10 + 4 * w) 5 (omega arith)
    ∙ rw none (by_cases (dec_lt ((room - start) / 4) w)
    (λ h. rw (lt-ltb ((room - start) / 4) w h))
    (λ h. rw (le-ltb ((room - start) / 4) w (omega arith)))))
    (λ enough.
    let there : refuse_if (ltb start 10) 5 ≡ 0 = less_number-none start 10 5 (omega arith) in
    rw there (by_cases (dec_lt room (10 + 4 * w))
    (λ h. rw (lt-ltb room (10 + 4 * w) h, lt-ltb ((room - start) / 4) w (omega arith)))
    (λ h. rw (le-ltb room (10 + 4 * w) (omega arith), le-ltb ((room - start) / 4) w (omega arith)))))

module _ {h : Heading} {c : Context} {x m : List ℕ} {start : ℕ} {r : Answer} {y : List ℕ} (ran : Ran h c x m start r y) where
  length_part : length (part_from start m) ≡ length m - start
  length_part = ap length (part-is start m) ∙ length-drop start m

  -- the number is packing's, and then 5 where the fields have no room
  write-number : write_number 2 h c x (length m)
      ≡ pack_number (table_for c h) (halves_of x) (length (part_from start m) / 4) or_else refuse_if (ltb start 10) 5
  unfolding packed_given_number pack_number
  write-number =
      let room = room-alike (length m) (words_for (given_bits h c x)) start ran.place in
      frame-number (packed-frame h c x) (length m)
      ∙ rw (ran.placed, length-given_words h c x, room, length_part) (simp or_else-assoc)

  pack-number : r.number ≡ pack_number (table_for c h) (halves_of x) (length (part_from start m) / 4)
  pack-number = ap (λ o. o.answer.number) ran.packs ∙ packed-number (table_for c h) x (part_from start m)

  -- packing refused: the memory is as it was
  pub pack-refused : (r.number ≡ 0 → ⊥)
      → {a : RecordWritten} → a ≡ not_written r.number → outcome a (with_part start m y) ≡ record_written 2 h c x m
  pack-refused some {a} e =
      let kept = packed-kept (table_for c h) x (part_from start m) (λ z. some (ap (λ o. o.answer.number) ran.packs ∙ z)) in
      let same : y ≡ part_from start m = ap (λ o. o.memory) ran.packs ∙ kept.memory in
      ap (outcome a) (ap (with_part start m) same ∙ put_same start (length m - start) m)
      ∙ refused-number 2 h c x m r.number (given-first _ _ pack-number some ∙ sym write-number) some e

  module _ (done : r.number ≡ 0) where
    none : pack_number (table_for c h) (halves_of x) (length (part_from start m) / 4) ≡ 0
    none = sym pack-number ∙ done

    fine : Packable (table_for c h) (halves_of x)
    fine = packable (table_for c h) (halves_of x) (length (part_from start m) / 4) none

    words-put : outcome r y ≡ wrote (given_bits h c x) (given_words h c x) (part_from start m)
    words-put = ran.packs ∙ packed-done (table_for c h) x (part_from start m) none

    bits_are : r.count ≡ given_bits h c x
    bits_are = ap (λ o. o.answer.count) words-put

    pub pack-few : length x / 2 ≤ 4096
    pack-few = omega (arith, fine.few, length-halves x)

    -- no room for the fields: nothing was packed, nor had it room
    pub pack-short : start < 10
        → {a : RecordWritten} → a ≡ not_written 5 → outcome a (with_part start m y) ≡ record_written 2 h c x m
    pack-short short {a} e =
        let size =
        ap (λ o. length o.memory) ran.packs ∙ (packed-within (table_for c h) x (part_from start m)).size ∙ length_part in
        let empty : y ≡ [] = sym (take_all 0 y (omega arith)) in
        let same : with_part start m y ≡ m =
        part-back start m y ∙ rw (empty, append-nil (take start m)) (take_all start m (omega arith)) in
        ap (outcome a) same
        ∙ refused-number 2 h c x m 5 (sym (write-number ∙ rw (none, lt-ltb start 10 short))) (λ z. omega arith) e

    -- done
    pub pack-done : 10 ≤ start → {st : SheetState} → st ≡ state_of (after_record a_row h x c)
        → {a : RecordWritten} → a ≡ record { number = 0; count = 10 + 4 * words_for r.count; state = st }
        → (o : List ℕ) → o ≡ row_fields 2 h.row (length x / 2) (10 + 4 * words_for r.count) ++ drop 10 (with_part start m y)
        → outcome a o ≡ record_written 2 h c x m
    pack-done enough after {a} e o fields =
        let ten : start ≡ 10 = omega arith in
        let size : 4 * words_for r.count ≡ length (given_words h c x) = rw bits_are (sym (length-given_words h c x)) in
        frame-done (packed-frame h c x) m (write-number ∙ rw (none, le-ltb start 10 enough)) (omega arith) after
        (rw size at e) y o (rw ten at (ap (λ o. o.memory) words-put)) (rw (size, ten) at fields)
