-- The ways out of reading a packed row. Assumes nothing.
use Prim.Native.Nat.{ℕ, ◌+◌, ◌*◌, ◌/◌, ◌%◌, ◌≤◌, ◌<◌, min}
use native.Mathlib.Decide.{dec_lt}
use native.Mathlib.Omega.{arith}
use mathlib.Core.Path.{◌≡◌, refl, sym, ap, ◌∙◌, subst}
use mathlib.Core.Logic.{by_cases}
use mathlib.Core.Bool.{Bool, true, false}
use mathlib.Core.List.{List, ◌++◌, append_assoc}
use lib.ListN.{length, take, drop}
use lib.Seq.{length-take-le, take_at}
use lib.Dec.{ltb}
use borrow.Author.Tests.{lt-ltb, le-ltb}
use Rattle.bitstream.specs.Bits.{flat, words_for}
use Rattle.bitstream.specs.Bits.Laws.{length_cut}
use Rattle.bitstream.specs.Memory.Part.{part_from, part-is}
use Rattle.answer.specs.Outcome.{Outcome, outcome, ◌or_else◌, refuse_if, nothing, lent, room_number}
use Rattle.answer.specs.Outcome.Laws.{less_number-zero, less_number-none, less_number-given, unequal_number-none, unequal_number-given, or_else-assoc, or_else-none, or_else-zero-right, or_else-same, or_else-in, refuse_if-in, given-first, given-next}
use Rattle.row_format.specs.declared.RowUnpacked.{RowUnpacked}
use Rattle.row_format.specs.Place.{has_place, place_shown}
use Rattle.row_format.specs.Place.Laws.{place_shown-twice}
use Rattle.row_format.specs.Row.{Item, fresh, pixels_of, pixel_bytes, too_many}
use Rattle.row_format.specs.Row.Laws.{length-pixels_of, too_many-zero}
use Rattle.row_format.specs.Reading.{Run, done, stop, run_number, run_place, bits_of_run, first_number, row_reading}
use Rattle.row_format.proofs.Reading.Laws.{row_reading-room}
use Rattle.row_format.specs.Calls.{row_wrote, row_outcome, unpacked}
use Rattle.row_format.proofs.Calls.Laws.{row_outcome-number, row_outcome-at}
use Rattle.row_format.proofs.Theorems.Numbers.{StopIn, row_reading-stops}
use Rattle.row_format.proofs.Theorems.Shown.{row_reading-shown}
use Rattle.row_format.proofs.Theorems.Done.{GivesRow, row_reading-gives, row_reading-reads}
use Rattle.sheet_format.specs.declared.SheetState.{SheetState}
use Rattle.sheet_format.specs.declared.RecordRead.{RecordRead}
use Rattle.sheet_format.specs.Context.{Context, table_for, state_of, context_of}
use Rattle.sheet_format.specs.Context.Laws.{state_of-context_of, tables-context_of, table_for-context_of}
use Rattle.sheet_format.specs.Fields.{shorter_than}
use Rattle.sheet_format.specs.Kind.{a_row, after_record}
use Rattle.sheet_format.specs.Kind.Row.{row_heading, pixel_count, row_content, row_place}
use Rattle.sheet_format.specs.Kind.Row.Laws.{row_place-table}
use Rattle.sheet_format.specs.Kind.PackedRow.{packed_reading, packed_leftover, packed_own, packed_stop, packed_bits, packed_content, packed_kind}
use Rattle.sheet_format.specs.Kind.PackedRow.Laws.{packed-lawful}
use Rattle.sheet_format.specs.Record.{content_number}
use Rattle.sheet_format.specs.Record.Laws.{content-passed}
use Rattle.sheet_format.specs.Reading.{refused_record}
use Rattle.sheet_format.specs.Reading.Laws.{refused-shown, refused-anywhere}
use Rattle.sheet_format.proofs.Theorems.Room.{own-content}
use Rattle.std.specs.Prelude.{Result, Ok, Err}
use Rattle.answer.specs.declared.refusal.Refusal.{Refusal}
use Rattle.answer.specs.Refusal.{result_number}
use Rattle.sheet_reader.specs.declared.answers.Refused.{Refused}
use Rattle.sheet_reader.specs.Answers.{read_number, read_place}
use Rattle.sheet_reader.specs.declared.row.RowFields.{RowFields}
use Rattle.sheet_reader.specs.Leaves.{accepted_record, ContentLeaves}
use Rattle.sheet_reader.specs.Leaves.Laws.{refuses, holds}
use Rattle.sheet_reader.specs.Row.{HasRowFields, RowFieldsOf}
use Rattle.sheet_reader.specs.Packed.{body_reading, RowHeld, RowRead}

-- ---- room for more than 4096 pixels is as good as room for 4096
room_most : (room n : ℕ) → n ≤ 4096 → room_number (lent (min room 8192)) (2 * n) ≡ room_number (lent room) (2 * n)
room_most room n few = by_cases (dec_lt room (2 * n))
    (λ less. less_number-given (min room 8192) (2 * n) 5 (omega arith) ∙ sym (less_number-given room (2 * n) 5 less))
    (λ enough. less_number-none (min room 8192) (2 * n) 5 (omega arith) ∙ sym (less_number-none room (2 * n) 5 (omega arith)))

row_reading-most : (room : ℕ) (tb : List ℕ) (n : ℕ) (wb : List ℕ)
    → row_reading (lent (min room 8192)) tb n wb ≡ row_reading (lent room) tb n wb
unfolding row_reading first_number
row_reading-most room tb n wb =
    let same : too_many n or_else room_number (lent (min room 8192)) (2 * n) ≡ too_many n or_else room_number (lent room) (2 * n) =
    or_else-same (too_many n) _ _ (λ e. room_most room n (too_many-zero n e)) in
    rw same

-- ---- the row
-- the row call answered a and left out; it was lent the memory m, of the room but no more than a row needs
pub record Unpacked (room : ℕ) (tb b : List ℕ) (a : RowUnpacked) (out : List ℕ) : Type 0 where
  pub m : List ℕ
  pub size : length m ≡ min room 8192
  pub told : outcome a out ≡ unpacked tb (row_content b) (pixel_count b) m

pub unpacked-row : {room : ℕ} {tb b : List ℕ} {a : RowUnpacked} {out : List ℕ} {size count : ℕ} (row : List ℕ) → length row ≡ 8192
    → size ≡ min room 8192 → count ≡ pixel_count b → outcome a out ≡ unpacked tb (part_from 4 b) count (take size row)
    → Unpacked room tb b a out
unpacked-row {tb = tb} {b = b} {size = size} row long size_is count-is told = record {
  m = take size row;
  size = length-take-le size row (omega arith) ∙ size_is;
  told = told ∙ rw (part-is 4 b, count-is);
}

-- a run that is done
record IsDone (x : Run) : Type 0 where
  pub items : List Item
  pub used : ℕ
  pub is : x ≡ done items used

run-done : (x : Run) → StopIn (λ e. 0 < e) x → run_number x ≡ 0 → IsDone x
run-done (done js u) real none = record { items = js; used = u; is = refl }
run-done (stop e at u) real none = absurd (omega arith)

module _ {room : ℕ} {tb b : List ℕ} {a : RowUnpacked} {out : List ℕ} (u : Unpacked room tb b a out) where
  told_is : outcome a out ≡ row_outcome u.m (body_reading (lent room) tb b)
  unfolding unpacked
  told_is =
      u.told
      ∙ ap (λ (k : ℕ). row_outcome u.m (body_reading (lent k) tb b)) u.size
      ∙ ap (row_outcome u.m) (row_reading-most room tb (pixel_count b) (row_content b))

  number_is : a.number ≡ run_number (body_reading (lent room) tb b)
  number_is =
      ap (λ (o : Outcome RowUnpacked). o.answer.number) told_is ∙ row_outcome-number u.m (body_reading (lent room) tb b)

  -- the place is that of the reading, where the number shows one
  place_is : place_shown a.number a.at ≡ place_shown a.number (run_place (body_reading nothing tb b))
  place_is =
      let x = body_reading (lent room) tb b in
      let at-is = ap (λ (o : Outcome RowUnpacked). o.answer.at) told_is ∙ row_outcome-at u.m x in
      rw (number_is, at-is, place_shown-twice (run_number x) (run_place x))
      (row_reading-shown (lent room) nothing tb (pixel_count b) (row_content b) refl)

  pub row-refused : {e : Refused} → a.number ≡ e.number → a.at ≡ e.at → 0 < e.number → {out' : List ℕ} → RowRead room tb b (Err e) out'
  row-refused {e} number place some = record {
    number = given-first (run_number (body_reading (lent room) tb b)) _ (sym number ∙ number_is) (λ z. omega arith);
    at = rw (← number, ← place) place_is;
    row = tt;
    some = some;
  }

  module _ (none : a.number ≡ 0) where
    accepted : run_number (body_reading (lent room) tb b) ≡ 0
    accepted = sym number_is ∙ none

    whole : IsDone (body_reading (lent room) tb b)
    whole =
        run-done (body_reading (lent room) tb b) (row_reading-stops (lent room) tb (pixel_count b) (row_content b)) accepted

    -- the same where nothing is lent
    whole_is : body_reading nothing tb b ≡ done whole.items whole.used
    whole_is =
        let reads = row_reading-reads (lent room) tb (pixel_count b) (row_content b) whole.items whole.used whole.is in
        sym (row_reading-room (lent room) tb (pixel_count b) (row_content b) reads.given.room) ∙ whole.is

    wrote-is : outcome a out ≡ row_wrote whole.used (pixel_bytes (pixels_of fresh whole.items)) u.m
    wrote-is = told_is ∙ ap (row_outcome u.m) whole.is

    bits_is : a.count ≡ bits_of_run (body_reading nothing tb b)
    bits_is = ap (λ (o : Outcome RowUnpacked). o.answer.count) wrote-is ∙ sym (ap bits_of_run whole_is)

    pub row-leftover : 4 * ((a.count + 31) / 32) < length (part_from 4 b) → {out' : List ℕ}
        → RowRead room tb b (Err (record { number = 14; at = 0 })) out'
    row-leftover more = record {
      number =
          given-next accepted
          (rw (← bits_is, ← part-is 4 b, lt-ltb (4 * words_for a.count) (length (part_from 4 b)) more));
      at = refl;
      row = tt;
      some = omega arith;
    }

    pixels-size : length (pixel_bytes (pixels_of fresh whole.items)) ≡ 2 * pixel_count b
    pixels-size =
        let ps = pixels_of fresh whole.items in
        let given =
        subst (GivesRow (lent room) (pixel_count b)) whole.is (row_reading-gives (lent room) tb (pixel_count b) (row_content b)) in
        length_cut 8 (2 * length ps) (flat 16 ps) ∙ ap (2 *◌) (length-pixels_of fresh whole.items ∙ given.count)

    pub row_done_lem : {bits : ℕ} → a.count ≡ bits → length (part_from 4 b) ≤ 4 * ((a.count + 31) / 32) → (rest : List ℕ)
        → RowRead room tb b (Ok bits) (out ++ rest)
    row_done_lem count all rest =
        let p = pixel_bytes (pixels_of fresh whole.items) in
        let left = drop (length p) u.m ++ rest in
        let out-is : out ++ rest ≡ p ++ left =
        ap (λ (o : Outcome RowUnpacked). o.memory ++ rest) wrote-is ∙ append_assoc p (drop (length p) u.m) rest in
        let reads = row_reading-reads (lent room) tb (pixel_count b) (row_content b) whole.items whole.used whole.is in
        record {
          number = given-next accepted
              (rw (← bits_is, ← part-is 4 b, le-ltb (4 * words_for a.count) (length (part_from 4 b)) all));
          at = refl;
          row = record {
            few = reads.given.few;
            bits_are = sym count ∙ bits_is;
            front = rw (out-is, whole_is) (take_at p left (2 * pixel_count b) pixels-size);
          };
          some = tt;
        }

-- ---- the record
-- a missing field is 14 too
either : (t : Bool) (e : ℕ) → (refuse_if t 14 or_else 14) or_else e ≡ 14
either true e = refl
either false e = refl

-- the body's own refusals, under the table that the row uses
own-number : (c : Context) (room : ℕ) (tb b : List ℕ) → table_for c (row_heading b) ≡ tb
    → packed_own (lent room) c b
    ≡ run_number (body_reading (lent room) tb b)
    or_else refuse_if (ltb (4 * words_for (bits_of_run (body_reading nothing tb b))) (length (row_content b))) 14
unfolding packed_own packed_leftover packed_reading
own-number c room tb b table = rw table

-- and where its reading stops
stop_is : (c : Context) (tb b : List ℕ) → table_for c (row_heading b) ≡ tb → packed_stop c b ≡ run_place (body_reading nothing tb b)
unfolding packed_stop packed_reading
stop_is c tb b table = rw table

pub packed-not-words : {c : Context} {b : List ℕ} {room whole : ℕ} {m : List ℕ} {x : RecordRead} → (length b % 4 ≡ 0 → ⊥)
    → x ≡ refused_record 0 14 → ContentLeaves packed_kind room 2 whole c b m x m
unfolding content_number
packed-not-words {b = b} odd is = record {
  leaves = refuses is (rw (unequal_number-given (length b % 4) 0 14 odd) (sym (either (ltb (length b) 4) _))) (λ e. omega arith);
}

-- the number after that of the fields and of the place
module _ (tb : List ℕ) {b : List ℕ} {st : SheetState} {f : Result RowFields Refusal} (words : length b % 4 ≡ 0) (fields : RowFieldsOf b st f) where
  packed-chain : (room : ℕ)
      → content_number packed_kind (lent room) (context_of tb st) b ≡ result_number f or_else packed_own (lent room) (context_of tb st) b
  unfolding content_number
  packed-chain room =
      let c = context_of tb st in
      rw (fields.number c (state_of-context_of tb st), unequal_number-none (length b % 4) 0 14 words, or_else-none (shorter_than 4 b))
      (sym (or_else-assoc (shorter_than 4 b) (row_place c (row_heading b)) _))

  -- 14 and 16 show no place
  placeless : has_place (result_number f) ≡ false
  placeless =
      let None : ℕ → Type 0 = λ e. has_place e ≡ false in
      let c = context_of tb st in
      rw (fields.number c (state_of-context_of tb st))
      (or_else-in None (shorter_than 4 b) _ (refuse_if-in None (ltb (length b) 4) 14 refl refl)
      (packed-lawful.place_in None (record { p0 = refl; p16 = refl }) c (row_heading b)))

  -- a row that is placed comes after a table, which is the one that is lent
  table_is : result_number f ≡ 0 → table_for (context_of tb st) (row_heading b) ≡ tb
  table_is placed =
      let c = context_of tb st in
      let both = sym (fields.number c (state_of-context_of tb st)) ∙ placed in
      table_for-context_of tb st (row_heading b)
      (λ none. row_place-table c (row_heading b) (or_else-zero-right (shorter_than 4 b) _ both) (tables-context_of tb st ∙ none))

  module _ {room whole : ℕ} {m : List ℕ} {x : RecordRead} where
    pub packed-misplaced : x ≡ refused_record 0 (result_number f) → (result_number f ≡ 0 → ⊥)
        → ContentLeaves packed_kind room 2 whole (context_of tb st) b m x m
    packed-misplaced is some =
        let anywhere = refused-anywhere (result_number f) (packed_stop (context_of tb st) b) placeless in
        record { leaves = refuses (is ∙ anywhere) (given-first (result_number f) _ refl some ∙ sym (packed-chain room)) some }

    pub packed-refused : result_number f ≡ 0 → {a : Result ℕ Refused} {out : List ℕ} → RowRead room tb b a out
        → x ≡ refused_record (read_place a) (read_number a) → (read_number a ≡ 0 → ⊥)
        → ContentLeaves packed_kind room 2 whole (context_of tb st) b m x m
    packed-refused placed {a = a} row is some =
        let c = context_of tb st in
        let own = row.number ∙ sym (own-number c room tb b (table_is placed)) in
        let shown =
        refused-shown (read_number a) (read_place a) (packed_stop c b) (row.at ∙ rw (stop_is c tb b (table_is placed))) in
        record { leaves = refuses (is ∙ shown) (given-next placed own ∙ sym (packed-chain room)) some }

-- what is known of an accepted record with the body b, whose fields are f
pub record PackedAccepted (tb b : List ℕ) (st : SheetState) (room : ℕ) (f : RowFields) (bits : ℕ) (out : List ℕ) : Type 0 where
  pub fields : HasRowFields b f
  pub row : RowHeld tb b bits out
  pub table : table_for (context_of tb st) (row_heading b) ≡ tb
  pub zero : content_number packed_kind (lent room) (context_of tb st) b ≡ 0

module _ {tb b : List ℕ} {st : SheetState} {room : ℕ} {f : RowFields} {bits : ℕ} {out : List ℕ} where
  pub packed-accepted : length b % 4 ≡ 0 → RowFieldsOf b st (Ok f) → RowRead room tb b (Ok bits) out
      → PackedAccepted tb b st room f bits out
  packed-accepted words fields row =
      let table = table_is tb words fields refl in
      let own = row.number ∙ sym (own-number (context_of tb st) room tb b table) in
      record {
        fields = fields.fields;
        row = row.row;
        table = table;
        zero = packed-chain tb words fields room ∙ sym own;
      }

  module _ (ok : PackedAccepted tb b st room f bits out) where
    content : (length (packed_content (context_of tb st) b) ≡ 2 * pixel_count b) × (room_number (lent room) (2 * pixel_count b) ≡ 0)
    content =
        let c = context_of tb st in
        own-content packed-lawful c b (lent room) (content-passed packed_kind (lent room) c b ok.zero).own

    pub packed-few : f.count ≤ 4096
    packed-few = rw ok.fields.count ok.row.few

    pub packed-fits : 2 * f.count ≤ room
    packed-fits = rw ok.fields.count (less_number-zero room (2 * pixel_count b) 4 content.1)

    pub packed-held : {whole : ℕ} {m : List ℕ} {x : RecordRead} {m' : List ℕ} {after : SheetState}
        → ((c : Context) (d : List ℕ) → state_of c ≡ st → after ≡ state_of (after_record a_row (record { row = f.row }) d c))
        → x ≡ accepted_record 2 f.row f.count bits whole after
        → (room ≤ length m → m' ≡ take (2 * f.count) out ++ drop (2 * f.count) m)
        → ContentLeaves packed_kind room 2 whole (context_of tb st) b m x m'
    unfolding packed_bits packed_content packed_reading
    packed-held {m = m} {m' = m'} after_is is kept =
        let c = context_of tb st in
        let state = after_is c b (state_of-context_of tb st) in
        let size : length (packed_content c b) ≡ 2 * f.count = rw ok.fields.count content.0 in
        let front : take (2 * f.count) out ≡ packed_content c b = rw (ok.fields.count, ok.table) ok.row.front in
        record {
          leaves = holds ok.zero
              (is ∙ rw (state, ok.fields.row, ok.fields.count, ok.row.bits_are, ok.table))
              (2 * f.count) m' size (λ enough. kept enough ∙ ap (◌++ drop (2 * f.count) m) front);
        }
