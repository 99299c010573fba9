-- The laws of the record calls' answers: their numbers, and what they answer where done. Assumes nothing.
use Rattle.std.specs.Prelude.{ℕ, suc, ◌+◌, ◌-◌, ◌≤◌, ◌≡◌, false, length, drop}
use native.Mathlib.Omega.{arith}
use Rattle.std.proofs.Math.Path.{refl, ap}
use Rattle.std.proofs.Common.{sym, ◌∙◌}
use mathlib.Core.List.{List}
use Rattle.std.proofs.Math.ListN.{take}
use Rattle.answer.specs.Outcome.{Outcome, outcome, writes, unless, nothing, lent}
use Rattle.answer.specs.Outcome.Laws.{unless-part, unless-number}
use Rattle.row_format.specs.Place.{has_place, place_shown}
use Rattle.row_format.specs.Place.Laws.{place_shown-none}
use Rattle.sheet_format.specs.declared.RecordRead.{RecordRead}
use Rattle.sheet_format.specs.Context.{Context, no_state, state_of}
use Rattle.sheet_format.specs.Record.{length_field, kind_field, body_of, record_number}
use Rattle.sheet_format.specs.Record.Laws.{RecordAccepted, record_number-read}
use Rattle.sheet_format.specs.Kinds.{kind_of}
use Rattle.sheet_format.specs.Reading.{after_body, record_held, record_content, context_after, refused_record, record_stop, record_judged, record_read}

abbrev pub read_number : RecordRead → ℕ
read_number a = a.number

-- ---- by the kind's code and the body
module _ (c : Context) (r : List ℕ) {code : ℕ} {b : List ℕ} (kind : kind_field r ≡ code) (body : body_of r ≡ b) where
  pub record_content-of : record_content c r ≡ (kind_of code).content c b
  unfolding record_content
  record_content-of = ap (λ (n : ℕ). (kind_of n).content c (body_of r)) kind ∙ ap ((kind_of code).content c) body

  pub record_stop-of : record_stop c r ≡ (kind_of code).stop c b
  unfolding record_stop
  record_stop-of = ap (λ (n : ℕ). (kind_of n).stop c (body_of r)) kind ∙ ap ((kind_of code).stop c) body

  pub context_after-of : context_after c r ≡ after_body (kind_of code) b c
  unfolding context_after
  context_after-of =
      ap (λ (n : ℕ). after_body (kind_of n) (body_of r) c) kind ∙ ap (λ (l : List ℕ). after_body (kind_of code) l c) body

-- ---- refusals
-- refusals that show the same place; of a number that shows none, wherever reading stopped
pub refused-shown : (n s s' : ℕ) → place_shown n s ≡ place_shown n s' → refused_record s n ≡ refused_record s' n
refused-shown n s s' h =
    let at_place : ℕ → RecordRead = λ p.
    record { number = n; kind = 0; row = 0; count = 0; bits = 0; words = 0; length = 0; state = no_state; at = p } in
    ap at_place h

pub refused-anywhere : (n s : ℕ) → has_place n ≡ false → refused_record 0 n ≡ refused_record s n
refused-anywhere n s none = refused-shown n 0 s (place_shown-none n 0 none ∙ sym (place_shown-none n s none))

-- ---- judging
module _ (c : Context) (r : List ℕ) where
  pub record_judged-number : (record_judged c r).number ≡ record_number nothing c r
  unfolding record_judged record_held
  record_judged-number =
      unless-number read_number (refused_record (record_stop c r)) (record_held c r) (λ k. refl) (record_number nothing c r) refl

  pub record_judged-done : record_number nothing c r ≡ 0 → record_judged c r ≡ record_held c r
  unfolding record_judged
  record_judged-done e = rw e

-- ---- reading
module _ (c : Context) (r m : List ℕ) where
  pub record_read-answer : (record_read c r m).answer
      ≡ unless (record_number (lent (length m)) c r) (refused_record (record_stop c r)) (record_held c r)
  unfolding record_read
  record_read-answer =
      unless-part (λ (o : Outcome RecordRead). o.answer) (record_number (lent (length m)) c r)
      (λ e. outcome (refused_record (record_stop c r) e) m) (writes (record_held c r) (record_content c r) m)

  pub record_read-number : (record_read c r m).answer.number ≡ record_number (lent (length m)) c r
  unfolding record_held
  record_read-number =
      ap read_number record_read-answer
      ∙ unless-number read_number (refused_record (record_stop c r)) (record_held c r) (λ k. refl)
      (record_number (lent (length m)) c r) refl

  pub record_read-done : record_number (lent (length m)) c r ≡ 0 → record_read c r m ≡ writes (record_held c r) (record_content c r) m
  unfolding record_read
  record_read-done e = rw e

  pub record_read-refuses : (e : ℕ) → record_number (lent (length m)) c r ≡ suc e
      → record_read c r m ≡ outcome (refused_record (record_stop c r) (suc e)) m
  unfolding record_read
  record_read-refuses e h = rw h

-- ---- a record that judging accepts
module _ (c : Context) (r : List ℕ) (ok : (record_judged c r).number ≡ 0) where
  pub judged-read : RecordAccepted nothing c r
  judged-read = record_number-read nothing c r (sym (record_judged-number c r) ∙ ok)

  pub judged-held : record_judged c r ≡ record_held c r
  judged-held = record_judged-done c r (sym (record_judged-number c r) ∙ ok)

  pub judged-kind : (record_judged c r).kind ≡ kind_field r
  unfolding record_held
  judged-kind = rw judged-held

  pub judged-state : (record_judged c r).state ≡ state_of (context_after c r)
  unfolding record_held context_after
  judged-state = rw judged-held

  -- the bytes of the record
  pub judged-length : (6 ≤ (record_judged c r).length) × ((record_judged c r).length ≤ 32778) × ((record_judged c r).length ≤ length r)
  unfolding record_held
  judged-length =
      let size = judged-read.size in
      rw judged-held (omega (arith, size.least, size.most, size.there))

  -- and its body stands behind length and kind
  pub judged-body : take ((record_judged c r).length - 6) (drop 6 r) ≡ body_of r
  unfolding record_held
  judged-body =
      let size : 4 + length_field r - 6 ≡ length_field r - 2 = omega arith in
      rw judged-held (ap (λ (k : ℕ). take k (drop 6 r)) size)
