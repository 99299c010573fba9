-- Document 02, ticket 2, of records, and back: only a packed row whose words are reached is refused 6 to 10, and the row call for
-- them answers the same. Assumes nothing.
use Rattle.std.specs.Prelude.{ℕ, zero, suc, ◌*◌, ◌≤◌, ◌≡◌, true, false, List, length, ltb, eqb}
use Rattle.std.proofs.Math.Path.{refl, ap}
use Rattle.std.proofs.Common.{sym, ◌∙◌, eqb-true}
use Rattle.std.proofs.lemmas.Bool.{eqb-false}
use Rattle.bitstream.specs.Bits.{words_for}
use Rattle.answer.specs.Outcome.{outcome, ◌or_else◌, unless, Lent, nothing, lent}
use Rattle.answer.specs.Outcome.Laws.{refuse_if-in, room_number-in}
use Rattle.row_format.specs.declared.RowUnpacked.{RowUnpacked}
use Rattle.row_format.specs.Lists.Laws.{by-test, true-false}
use Rattle.row_format.specs.Place.{has_place, place_shown}
use Rattle.row_format.specs.Place.Laws.{has_place-some, place_shown-twice}
use Rattle.row_format.specs.Reading.{Run, run_number, bits_of_run}
use Rattle.row_format.proofs.Reading.Laws.{lent-room, row_reading-room}
use Rattle.row_format.specs.Calls.{row_refusal, row_refused}
use Rattle.row_format.proofs.Theorems.Memory.{unpacked-kept}
use Rattle.row_format.proofs.Theorems.Shown.{row_reading-placed}
use Rattle.sheet_format.specs.declared.RecordRead.{RecordRead}
use Rattle.sheet_format.specs.Context.{Context}
use Rattle.sheet_format.specs.Kind.Lawful.{ListedBody, ListedPlace}
use Rattle.sheet_format.specs.Kind.Row.{row_heading, pixel_count, row_content}
use Rattle.sheet_format.specs.Kind.PackedRow.{packed_reading, packed_leftover, packed_own, packed_kind}
use Rattle.sheet_format.specs.Kind.PackedRow.Laws.{packed-lawful}
use Rattle.sheet_format.specs.Kinds.Laws.{bitless-in}
use Rattle.sheet_format.specs.Record.{kind_field, body_of, length_number, content_number, record_number}
use Rattle.sheet_format.specs.Reading.{refused_record, record_stop, record_held, record_judged, record_read, ReachesRow, row_call}
use Rattle.sheet_format.specs.Reading.Laws.{record_judged-number, record_read-answer, record_read-number}
use Rattle.sheet_format.proofs.Theorems.Numbers.{length_number-in, record_number-in}
use Rattle.sheet_format.proofs.Theorems.Place.{call-number, row_number, row-judged}

-- ---- numbers in order that show a place
passes : (a d : ℕ) → has_place a ≡ false → has_place (a or_else d) ≡ true → (a ≡ 0) × (has_place d ≡ true)
passes zero d none shows = (refl, shows)
passes (suc a) d none shows = absurd (true-false shows none)

last-silent : (a d : ℕ) → has_place d ≡ false → has_place (a or_else d) ≡ true → has_place a ≡ true
last-silent zero d none shows = absurd (true-false shows none)
last-silent (suc a) d none shows = shows

-- the numbers that show none
abbrev None : ℕ → Type 0
None e = has_place e ≡ false

silent : ListedBody None
silent = record {
  p0 = refl;
  p1 = refl;
  p2 = refl;
  p3 = refl;
  p4 = refl;
  p11 = refl;
  p12 = refl;
  p13 = refl;
  p14 = refl;
  p15 = refl;
}

silent-place : ListedPlace None
silent-place = record { p0 = refl; p16 = refl }

module _ (l : Lent) (c : Context) (r : List ℕ) (shows : has_place (record_number l c r) ≡ true) where
  packed-kind : kind_field r ≡ 2
  packed-kind =
      by-test (eqb (kind_field r) 2) (eqb-true (kind_field r) 2)
      (λ other. absurd (true-false shows (record_number-in None silent silent-place l c r
      (bitless-in (kind_field r) (eqb-false (kind_field r) 2 other) None silent l (λ n. room_number-in None l n refl refl) c
      (body_of r)))))

  in_order_lem : has_place (
      length_number r or_else packed_kind.fixed (body_of r) or_else packed_kind.place c (row_heading (body_of r))
      or_else packed_own l c (body_of r)) ≡ true
  unfolding record_number content_number
  in_order_lem = rw packed-kind at shows

  pub number-reaches : ReachesRow c r
  number-reaches =
      let b = body_of r in
      let size = passes (length_number r) _ (length_number-in None refl refl r) in_order_lem in
      let fixed = passes (packed_kind.fixed b) _ (packed-lawful.fixed_in None silent b) size.1 in
      let place = passes (packed_kind.place c (row_heading b)) _ (packed-lawful.place_in None silent-place c (row_heading b)) fixed.1 in
      record { size = size.0; kind = packed-kind; fixed = fixed.0; place = place.0 }

  leftover-silent : None (packed_leftover c (body_of r))
  unfolding packed_leftover
  leftover-silent =
      let used = bits_of_run (packed_reading nothing c (body_of r)) in
      refuse_if-in None (ltb (4 * words_for used) (length (row_content (body_of r)))) 14 refl refl

  -- the reading shows the place, and not what is left over; so the room lent has no part in it
  reading-shows : has_place (run_number (packed_reading l c (body_of r))) ≡ true
  reading-shows =
      last-silent (run_number (packed_reading l c (body_of r))) _ leftover-silent
      (sym (ap has_place (row_number c r number-reaches l)) ∙ shows)

  roomless : packed_reading l c (body_of r) ≡ packed_reading nothing c (body_of r)
  unfolding packed_reading
  roomless = row_reading-placed l _ _ _ reading-shows

  pub number-judged : record_number l c r ≡ record_number nothing c r
  number-judged =
      row_number c r number-reaches l
      ∙ ap (λ (x : Run). run_number x or_else packed_leftover c (body_of r)) roomless
      ∙ sym (row_number c r number-reaches nothing)

-- ---- reading a record answers as judging it does
pub record_read-placed : (c : Context) (r m : List ℕ) → has_place (record_read c r m).answer.number ≡ true
    → (record_read c r m).answer ≡ record_judged c r
unfolding record_judged
record_read-placed c r m shows =
    let same = number-judged (lent (length m)) c r (rw (record_read-number c r m) at shows) in
    record_read-answer c r m ∙ ap (λ (e : ℕ). unless e (refused_record (record_stop c r)) (record_held c r)) same

-- ---- and the row call as the record's
module _ (c : Context) (r : List ℕ) (shows : has_place (record_judged c r).number ≡ true) where
  numbered : has_place (record_number nothing c r) ≡ true
  numbered = rw (record_judged-number c r) at shows

  pub judged-reaches : ReachesRow c r
  judged-reaches = number-reaches nothing c r numbered

  module _ (m : List ℕ) (enough : 2 * pixel_count (body_of r) ≤ length m) where
    call-shows : has_place (row_call c r m).answer.number ≡ true
    unfolding packed_reading
    call-shows =
        let room = lent-room (length m) (pixel_count (body_of r)) enough in
        let same : packed_reading (lent (length m)) c (body_of r) ≡ packed_reading nothing c (body_of r) =
        row_reading-room (lent (length m)) _ _ _ room in
        ap has_place (call-number c r m ∙ ap run_number same) ∙ reading-shows nothing c r numbered

    pub judged-call : row_call c r m ≡ row_refused (record_judged c r).at (record_judged c r).number m
    judged-call =
        let a = (row_call c r m).answer in
        let is = row-judged c r judged-reaches m call-shows in
        let kept = unpacked-kept _ _ _ m (has_place-some a.number call-shows) in
        let number_is : (record_judged c r).number ≡ a.number = ap (λ (x : RecordRead). x.number) is in
        let at-is : (record_judged c r).at ≡ place_shown a.number a.at = ap (λ (x : RecordRead). x.at) is in
        ap (λ (x : RowUnpacked). outcome x (row_call c r m).memory) kept.answer
        ∙ ap (outcome (row_refusal a.at a.number)) kept.memory
        ∙ rw (number_is, at-is, place_shown-twice a.number a.at)
