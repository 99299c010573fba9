-- Document 02, ticket 2, of records: which answers have a place; and where the row call is refused 6 to 10, so is the record
-- call that reaches those words, with the same place. Assumes nothing.
use Rattle.std.specs.Prelude.{ℕ, suc, ◌*◌, ◌≤◌, ◌≡◌, true, List, length}
use Rattle.std.proofs.Math.Path.{refl, sym, ap}
use Rattle.std.proofs.Common.{◌∙◌}
use Rattle.std.proofs.Math.Bool.{false}
use Rattle.answer.specs.Outcome.{outcome, writes, ◌or_else◌, Lent, nothing, lent, room_number}
use Rattle.answer.specs.Outcome.Laws.{unless-refused, unless-in, given-first}
use Rattle.row_format.specs.Place.{has_place, place_shown}
use Rattle.row_format.specs.Place.Laws.{has_place-some, place_shown-none, place_shown-twice}
use Rattle.row_format.specs.Reading.{run_number, run_place}
use Rattle.row_format.proofs.Reading.Laws.{lent-room, row_reading-room}
use Rattle.row_format.specs.Calls.{unpacked}
use Rattle.row_format.proofs.Calls.Laws.{unpacked-number, row_outcome-at}
use Rattle.row_format.proofs.Theorems.Shown.{row_reading-placed}
use Rattle.sheet_format.specs.declared.RecordRead.{RecordRead}
use Rattle.sheet_format.specs.Context.{Context}
use Rattle.sheet_format.specs.Kind.Row.{pixel_count}
use Rattle.sheet_format.specs.Kind.PackedRow.{packed_reading, packed_leftover, packed_own, packed_stop}
use Rattle.sheet_format.specs.Record.{body_of, content_number, record_number}
use Rattle.sheet_format.specs.Reading.{refused_record, record_stop, record_held, record_content, record_judged, record_read, ReachesRow, row_call}
use Rattle.sheet_format.specs.Reading.Laws.{record_stop-of, refused-shown}

-- ---- every number but 6 to 10, and done
module _ (c : Context) (r : List ℕ) where
  pub record_judged-placeless : has_place (record_judged c r).number ≡ false → (record_judged c r).at ≡ 0
  unfolding record_judged record_held
  record_judged-placeless =
      unless-in (λ a. has_place a.number ≡ false → a.at ≡ 0) (record_number nothing c r) (refused_record (record_stop c r))
      (record_held c r) (λ k e none. place_shown-none (suc k) (record_stop c r) none) (λ e none. refl)

  pub record_read-placeless : (m : List ℕ) → has_place (record_read c r m).answer.number ≡ false → (record_read c r m).answer.at ≡ 0
  unfolding record_read record_held
  record_read-placeless m =
      unless-in (λ o. has_place o.answer.number ≡ false → o.answer.at ≡ 0) (record_number (lent (length m)) c r)
      (λ k. outcome (refused_record (record_stop c r) k) m) (writes (record_held c r) (record_content c r) m)
      (λ k e none. place_shown-none (suc k) (record_stop c r) none) (λ e none. refl)

-- ---- a packed row
-- the row call's reading is the record's
pub call-number : (c : Context) (r m : List ℕ)
    → (row_call c r m).answer.number ≡ run_number (packed_reading (lent (length m)) c (body_of r))
unfolding packed_reading
call-number c r m = unpacked-number _ _ _ m

module _ (c : Context) (r : List ℕ) (there : ReachesRow c r) where
  -- what is left of the record's number is the row's
  pub row_number : (l : Lent) → record_number l c r ≡ run_number (packed_reading l c (body_of r)) or_else packed_leftover c (body_of r)
  unfolding record_number content_number packed_own
  row_number l = rw (there.size, there.kind, there.fixed, there.place)

  module _ (m : List ℕ) (shows : has_place (row_call c r m).answer.number ≡ true) where
    call-reading : packed_reading (lent (length m)) c (body_of r) ≡ packed_reading nothing c (body_of r)
    unfolding packed_reading
    call-reading = row_reading-placed (lent (length m)) _ _ _ (rw (call-number c r m) at shows)

    -- what it shows is what the record shows
    call-shown : place_shown (row_call c r m).answer.number (record_stop c r)
        ≡ place_shown (row_call c r m).answer.number (row_call c r m).answer.at
    unfolding unpacked packed_stop packed_reading
    call-shown =
        let x = packed_reading (lent (length m)) c (body_of r) in
        let at-is : (row_call c r m).answer.at ≡ place_shown (run_number x) (run_place x) = row_outcome-at m x in
        let stop_is : record_stop c r ≡ run_place x = record_stop-of c r there.kind refl ∙ sym (ap run_place call-reading) in
        rw (stop_is, at-is, call-number c r m, place_shown-twice (run_number x) (run_place x))

    some : (row_call c r m).answer.number ≡ 0 → ⊥
    some = has_place-some (row_call c r m).answer.number shows

    -- with room for the row the record has its number
    placed-number : (l : Lent) → room_number l (2 * pixel_count (body_of r)) ≡ 0 → record_number l c r ≡ (row_call c r m).answer.number
    unfolding packed_reading
    placed-number l enough =
        let same : packed_reading l c (body_of r) ≡ packed_reading (lent (length m)) c (body_of r) =
        row_reading-room l _ _ _ enough ∙ sym call-reading in
        let number : (row_call c r m).answer.number ≡ run_number (packed_reading l c (body_of r)) =
        call-number c r m ∙ sym (ap run_number same) in
        row_number l ∙ sym (given-first (run_number (packed_reading l c (body_of r))) _ number some)

    refused-same : refused_record (record_stop c r) (row_call c r m).answer.number
        ≡ refused_record (row_call c r m).answer.at (row_call c r m).answer.number
    refused-same = refused-shown (row_call c r m).answer.number (record_stop c r) (row_call c r m).answer.at call-shown

    pub row-judged : record_judged c r ≡ refused_record (row_call c r m).answer.at (row_call c r m).answer.number
    unfolding record_judged
    row-judged =
        rw (placed-number nothing refl)
        (unless-refused (row_call c r m).answer.number (refused_record (record_stop c r)) (record_held c r) some ∙ refused-same)

    pub row_read : (m' : List ℕ) → 2 * pixel_count (body_of r) ≤ length m'
        → record_read c r m' ≡ outcome (refused_record (row_call c r m).answer.at (row_call c r m).answer.number) m'
    unfolding record_read
    row_read m' enough =
        let e = (row_call c r m).answer.number in
        rw (placed-number (lent (length m')) (lent-room (length m') (pixel_count (body_of r)) enough))
        (unless-refused e (λ k. outcome (refused_record (record_stop c r) k) m') (writes (record_held c r) (record_content c r) m') some
        ∙ ap (λ (a : RecordRead). outcome a m') refused-same)
