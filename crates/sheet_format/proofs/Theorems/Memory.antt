-- A refused call moves nothing, and a done write changes only the bytes that it counts. Assumes nothing.
use Rattle.std.specs.Prelude.{ℕ, zero, suc, ◌≡◌, refl, List, length}
use Rattle.std.proofs.Common.{sym}
use Rattle.answer.specs.Outcome.{outcome, writes, nothing, lent, Kept, Within}
use Rattle.answer.specs.Outcome.Laws.{unless-in, unless-kept, writes-within}
use Rattle.row_format.specs.Place.{place_shown}
use Rattle.row_format.specs.Place.Laws.{place_shown-twice}
use Rattle.sheet_format.specs.declared.RecordWritten.{RecordWritten}
use Rattle.sheet_format.specs.Context.{Heading, Context}
use Rattle.sheet_format.specs.Record.{record_number}
use Rattle.sheet_format.specs.Reading.{refused_record, record_stop, record_held, record_content, record_judged, record_read}
use Rattle.sheet_format.specs.Reading.Laws.{refused-shown}
use Rattle.sheet_format.specs.Writing.{write_number, not_written, record_done, record_written, record_for}
use Rattle.sheet_format.specs.Writing.Laws.{write_number-room, record_written-done, record_written-refused}

-- ---- judging and reading
-- the place that a refusal shows is shown of itself
shown-again : (at e : ℕ) → refused_record at e ≡ refused_record (place_shown e at) e
shown-again at e = refused-shown e at (place_shown e at) (sym (place_shown-twice e at))

pub record_judged-refused : (c : Context) (r : List ℕ) → ((record_judged c r).number ≡ 0 → ⊥)
    → record_judged c r ≡ refused_record (record_judged c r).at (record_judged c r).number
unfolding record_judged record_held
record_judged-refused c r =
    unless-in (λ a. (a.number ≡ 0 → ⊥) → a ≡ refused_record a.at a.number) (record_number nothing c r)
    (refused_record (record_stop c r)) (record_held c r) (λ k e some. shown-again (record_stop c r) (suc k))
    (λ e some. absurd (some refl))

pub record_read-kept : (c : Context) (r m : List ℕ) → ((record_read c r m).answer.number ≡ 0 → ⊥)
    → let a = (record_read c r m).answer in Kept (refused_record a.at a.number) m (record_read c r m)
unfolding record_read record_held
record_read-kept c r m =
    unless-in (λ o. (o.answer.number ≡ 0 → ⊥) → Kept (refused_record o.answer.at o.answer.number) m o)
    (record_number (lent (length m)) c r) (λ k. outcome (refused_record (record_stop c r) k) m)
    (writes (record_held c r) (record_content c r) m)
    (λ k e some. record { answer = shown-again (record_stop c r) (suc k); memory = refl }) (λ e some. absurd (some refl))

-- ---- writing
module _ (code : ℕ) (h : Heading) (c : Context) (x m : List ℕ) where
  pub record_written-kept : ((record_written code h c x m).answer.number ≡ 0 → ⊥)
      → Kept (not_written (record_written code h c x m).answer.number) m (record_written code h c x m)
  unfolding record_written
  record_written-kept =
      unless-kept not_written m (writes (record_done code h c x) (record_for code h c x) m)
      (λ (a : RecordWritten). a.number) (λ k. refl) (write_number code h c x (length m)) (λ some. absurd (some refl))

  pub record_written-within : Within (record_written code h c x m).answer.count m (record_written code h c x m)
  record_written-within = by_number (write_number code h c x (length m)) refl
    where
      by_number : (e : ℕ) → write_number code h c x (length m) ≡ e
          → Within (record_written code h c x m).answer.count m (record_written code h c x m)
      by_number zero e =
          let b = record_for code h c x in
          rw (record_written-done code h c x m e)
          (writes-within (record_done code h c x) (length b) b m refl (write_number-room code h c x (length m) e))
      by_number (suc k) e = rw (record_written-refused code h c x m k e) (record { size = refl; rest = refl })
