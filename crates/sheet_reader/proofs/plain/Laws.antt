-- The ways out of reading a plain row. Assumes nothing.
use Prim.Native.Nat.{ℕ, ◌*◌, ◌≤◌, ◌<◌}
use native.Mathlib.Omega.{arith}
use mathlib.Core.Path.{◌≡◌, refl, sym, ap, ◌∙◌}
use mathlib.Core.Bool.{true, false}
use mathlib.Core.List.{List, ◌++◌}
use lib.ListN.{length, take, drop}
use lib.Seq.{take_all}
use lib.Dec.{ltb}
use borrow.Author.Tests.{lt-ltb, le-ltb}
use Rattle.bitstream.specs.Bits.{halves_of}
use Rattle.bitstream.specs.Memory.Part.{part_from, part-is}
use Rattle.answer.specs.Outcome.{◌or_else◌, lent, room_number}
use Rattle.answer.specs.Outcome.Laws.{less_number-zero, unequal_number-none, unequal_number-given, or_else-assoc, given-first}
use Rattle.row_format.specs.Lists.{any}
use Rattle.row_format.specs.Row.{too_high}
use Rattle.sheet_format.specs.declared.SheetState.{SheetState}
use Rattle.sheet_format.specs.declared.RecordRead.{RecordRead}
use Rattle.sheet_format.specs.Context.{Context, state_of}
use Rattle.sheet_format.specs.Fields.{shorter_than}
use Rattle.sheet_format.specs.Kind.{a_row, after_record}
use Rattle.sheet_format.specs.Kind.Row.{row_heading, pixel_count, row_content, row_place}
use Rattle.sheet_format.specs.Kind.PlainRow.{plain_number, plain_own, plain_content, plain_kind}
use Rattle.sheet_format.specs.Kind.PlainRow.Laws.{plain-lawful}
use Rattle.sheet_format.specs.Record.{content_number}
use Rattle.sheet_format.specs.Record.Laws.{content-passed}
use Rattle.sheet_format.specs.Reading.{refused_record}
use Rattle.sheet_format.proofs.Theorems.Room.{own-content}
use Rattle.std.specs.Prelude.{Result, Ok, Err}
use Rattle.answer.specs.declared.refusal.Refusal.{Refusal}
use Rattle.answer.specs.Refusal.{refusal_number, result_number}
use Rattle.answer.specs.Refusal.Laws.{refusal_not_done}
use Rattle.sheet_reader.specs.declared.row.RowFields.{RowFields}
use Rattle.sheet_reader.specs.Leaves.{accepted_record, ContentLeaves}
use Rattle.sheet_reader.specs.Leaves.Laws.{refuses, holds}
use Rattle.sheet_reader.specs.Row.{HasRowFields, RowFieldsOf}

-- ---- the number of the pixels, in any sheet
module _ (b : List ℕ) (room : ℕ) {count : ℕ} (is : count ≡ pixel_count b) (c : Context) where
  pub pixels-many : 4096 < count → 11 ≡ plain_own (lent room) c b
  unfolding plain_own plain_number
  pixels-many h = rw (← is, lt-ltb 4096 count h)

  module _ (few : count ≤ 4096) where
    pub pixels-size : (length (part_from 4 b) ≡ 2 * count → ⊥) → 14 ≡ plain_own (lent room) c b
    unfolding plain_own plain_number
    pixels-size wrong =
        rw (← part-is 4 b, ← is, le-ltb 4096 count few, unequal_number-given (length (part_from 4 b)) (2 * count) 14 wrong)

    module _ (size : length (part_from 4 b) ≡ 2 * count) where
      past-size : {n : ℕ} → n ≡ too_high (halves_of (part_from 4 b)) or_else room_number (lent room) (2 * count)
          → n ≡ plain_own (lent room) c b
      unfolding plain_own plain_number
      past-size h =
          rw (← part-is 4 b, ← is, le-ltb 4096 count few, unequal_number-none (length (part_from 4 b)) (2 * count) 14 size) h

      pub pixels-above : true ≡ any (ltb 4095) (halves_of (part_from 4 b)) → 4 ≡ plain_own (lent room) c b
      pixels-above above = past-size (rw (← above))

      pub pixels-full : false ≡ any (ltb 4095) (halves_of (part_from 4 b)) → room < 2 * count → 5 ≡ plain_own (lent room) c b
      pixels-full none h = past-size (rw (← none, lt-ltb room (2 * count) h))

      pub pixels-right : false ≡ any (ltb 4095) (halves_of (part_from 4 b)) → 2 * count ≤ room → 0 ≡ plain_own (lent room) c b
      pixels-right none h = past-size (rw (← none, le-ltb room (2 * count) h))

-- ---- the record, in a sheet that holds c
module _ {b : List ℕ} {st : SheetState} (room : ℕ) {f : Result RowFields Refusal} (fields : RowFieldsOf b st f) (c : Context)
    (shows : state_of c ≡ st) where
  plain-chain : content_number plain_kind (lent room) c b ≡ result_number f or_else plain_own (lent room) c b
  unfolding content_number
  plain-chain =
      rw (fields.number c shows) (sym (or_else-assoc (shorter_than 4 b) (row_place c (row_heading b)) _))

module _ {b : List ℕ} {st : SheetState} {room whole : ℕ} {m : List ℕ} {x : RecordRead} {c : Context} where
  pub plain-misplaced : {e : Refusal} → RowFieldsOf b st (Err e) → state_of c ≡ st → x ≡ refused_record 0 (refusal_number e)
      → ContentLeaves plain_kind room 3 whole c b m x m
  plain-misplaced {e} fields shows is =
      let some : refusal_number e ≡ 0 → ⊥ = λ z. omega (arith, refusal_not_done e) in
      record { leaves = refuses is (given-first (refusal_number e) _ refl some ∙ sym (plain-chain room fields c shows)) some }

  pub plain-refused : {f : RowFields} → RowFieldsOf b st (Ok f) → state_of c ≡ st → {n : ℕ} → n ≡ plain_own (lent room) c b
      → x ≡ refused_record 0 n → (n ≡ 0 → ⊥) → ContentLeaves plain_kind room 3 whole c b m x m
  plain-refused fields shows judged is some =
      record { leaves = refuses is (judged ∙ sym (plain-chain room fields c shows)) some }

-- what is known of an accepted record with the body b, whose fields are f
pub record PlainAccepted (b : List ℕ) (c : Context) (room : ℕ) (f : RowFields) : Type 0 where
  pub fields : HasRowFields b f
  pub zero : content_number plain_kind (lent room) c b ≡ 0

module _ {b : List ℕ} {room : ℕ} {f : RowFields} {c : Context} where
  pub plain-accepted : {st : SheetState} → RowFieldsOf b st (Ok f) → state_of c ≡ st → 0 ≡ plain_own (lent room) c b
      → PlainAccepted b c room f
  plain-accepted fields shows judged =
      record {
        fields = fields.fields;
        zero = plain-chain room fields c shows ∙ sym judged;
      }

  module _ (ok : PlainAccepted b c room f) where
    content : (length (plain_content c b) ≡ 2 * pixel_count b) × (room_number (lent room) (2 * pixel_count b) ≡ 0)
    content = own-content plain-lawful c b (lent room) (content-passed plain_kind (lent room) c b ok.zero).own

    pub plain_fits : 2 * f.count ≤ room
    plain_fits = rw ok.fields.count (less_number-zero room (2 * pixel_count b) 4 content.1)

    plain_size : length (row_content b) ≡ 2 * f.count
    unfolding plain_content
    plain_size = rw ok.fields.count content.0

    pub plain-long : 2 * f.count ≤ length (part_from 4 b)
    plain-long = rw (part-is 4 b, plain_size) (omega arith)

    pub plain-held : {st : SheetState} → state_of c ≡ st → {whole : ℕ} {m : List ℕ} {x : RecordRead} {m' : List ℕ} {after : SheetState}
        → ((c : Context) (d : List ℕ) → state_of c ≡ st → after ≡ state_of (after_record a_row (record { row = f.row }) d c))
        → x ≡ accepted_record 3 f.row f.count 0 whole after
        → (room ≤ length m → m' ≡ take (2 * f.count) (part_from 4 b) ++ drop (2 * f.count) m)
        → ContentLeaves plain_kind room 3 whole c b m x m'
    unfolding plain_content
    plain-held {st} shows {m = m} {m' = m'} after_is is kept =
        let front : take (2 * f.count) (part_from 4 b) ≡ row_content b =
        ap (take (2 * f.count)) (part-is 4 b) ∙ take_all (2 * f.count) (row_content b) (omega (arith, plain_size)) in
        record {
          leaves = holds ok.zero (is ∙ rw (after_is c b shows, ok.fields.row, ok.fields.count))
              (2 * f.count) m' plain_size (λ enough. kept enough ∙ ap (◌++ drop (2 * f.count) m) front);
        }
