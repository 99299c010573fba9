-- Judging a record and reading it: they agree wherever the lent memory is long enough, when reading is refused for room, and
-- what a done reading writes. Assumes nothing.
use Rattle.std.specs.Prelude.{ℕ, zero, suc, ◌*◌, ◌≤◌, ◌<◌, ◌≡◌, refl, List, length}
use Rattle.std.proofs.Common.{arith, sym, ap, ◌∙◌}
use Rattle.answer.specs.Outcome.{unless, Lent, nothing, lent, room_number, writes, Within}
use Rattle.answer.specs.Outcome.Laws.{less_number-zero, less_number-none, less_number-given, or_else-zero-left, or_else-zero-right, or_else-same, writes-within}
use Rattle.sheet_format.specs.Context.{Context}
use Rattle.sheet_format.specs.Kind.{Kind}
use Rattle.sheet_format.specs.Kind.Lawful.{Lawful}
use Rattle.sheet_format.specs.Kinds.{kind_of}
use Rattle.sheet_format.specs.Kinds.Laws.{lawful}
use Rattle.sheet_format.specs.Record.{kind_field, body_of, content_number, record_number}
use Rattle.sheet_format.specs.Record.Laws.{length_number-right, ContentPassed, record_number-read, read-record_number}
use Rattle.sheet_format.specs.Reading.{answer_bytes, record_held, record_content, refused_record, record_stop, record_judged, record_read}
use Rattle.sheet_format.specs.Reading.Laws.{judged-read, judged-held, record_read-answer, record_read-number, record_read-done, record_read-refuses}

-- ---- a lawful kind's own refusals, with memory lent and without
module _ {k : Kind} (L : Lawful k) (c : Context) (b : List ℕ) where
  abbrev size : ℕ
  size = k.each * k.count b

  -- room is asked between the parts, and what follows does not depend on it
  own_granted : (m : Lent) → room_number m size ≡ 0 → k.own m c b ≡ k.own nothing c b
  own_granted m room = L.own-parts m c b ∙ rw room (sym (L.own-parts nothing c b))

  own_room : (m : Lent) → k.own m c b ≡ 0 → room_number m size ≡ 0
  own_room m e =
      let parts = sym (L.own-parts m c b) ∙ e in
      or_else-zero-left (room_number m size) _ (or_else-zero-right (L.first c b) _ parts)

  own-full : (n : ℕ) → k.own nothing c b ≡ 0 → n < size → k.own (lent n) c b ≡ 5
  own-full n e less =
      let parts = sym (L.own-parts nothing c b) ∙ e in
      L.own-parts (lent n) c b ∙ rw (or_else-zero-left (L.first c b) _ parts, less_number-given n size 5 less)

  -- 16384 bytes are room for every content
  own-enough : (n : ℕ) → 16384 ≤ n → k.own (lent n) c b ≡ k.own nothing c b
  own-enough n enough =
      L.own-parts (lent n) c b
      ∙ or_else-same (L.first c b) _ _ (λ e. rw (less_number-none n size 5 (omega (arith, L.most c b e))))
      ∙ sym (L.own-parts nothing c b)

  -- the content that passed fills the bytes of its count, and there is room for them
  pub own-content : (m : Lent) → k.own m c b ≡ 0 → (length (k.content c b) ≡ size) × (room_number m size ≡ 0)
  own-content m e =
      let room = own_room m e in
      (L.size c b (sym (own_granted m room) ∙ e), room)

-- ---- with 16384 bytes lent, judging and reading answer the same
pub record_number-enough : (n : ℕ) → 16384 ≤ n → (c : Context) (r : List ℕ)
    → record_number (lent n) c r ≡ record_number nothing c r
unfolding record_number content_number
record_number-enough n enough c r = rw (own-enough (lawful (kind_field r)) c (body_of r) n enough)

pub record_read-judged : (c : Context) (r m : List ℕ) → 16384 ≤ length m → (record_read c r m).answer ≡ record_judged c r
unfolding record_judged
record_read-judged c r m enough =
    record_read-answer c r m
    ∙ ap (λ (e : ℕ). unless e (refused_record (record_stop c r)) (record_held c r)) (record_number-enough (length m) enough c r)

-- ---- of a record that judging accepts
module _ (c : Context) (r m : List ℕ) (ok : (record_judged c r).number ≡ 0) where
  parts : ContentPassed (kind_of (kind_field r)) nothing c (body_of r)
  parts = (judged-read c r ok).parts

  need : answer_bytes (record_judged c r) ≡ (kind_of (kind_field r)).each * (kind_of (kind_field r)).count (body_of r)
  unfolding record_held
  need = rw (judged-held c r ok)

  number-granted : answer_bytes (record_judged c r) ≤ length m → record_number (lent (length m)) c r ≡ 0
  number-granted h =
      let room = less_number-none (length m) _ 5 (rw need at h) in
      read-record_number (lent (length m)) c r (record {
        size = (judged-read c r ok).size;
        readable = (judged-read c r ok).readable;
        parts = record {
          fixed = parts.fixed;
          place = parts.place;
          own = own_granted (lawful (kind_field r)) c (body_of r) (lent (length m)) room ∙ parts.own;
        };
      })

  number-full : length m < answer_bytes (record_judged c r) → record_number (lent (length m)) c r ≡ 5
  unfolding record_number content_number
  number-full h =
      rw (
        length_number-right r (judged-read c r ok).size,
        (judged-read c r ok).readable,
        parts.fixed,
        parts.place,
      ) (own-full (lawful (kind_field r)) c (body_of r) (length m) parts.own (rw need at h))

  pub record_read-granted : answer_bytes (record_judged c r) ≤ length m
      → record_read c r m ≡ writes (record_judged c r) (record_content c r) m
  record_read-granted h = rw (judged-held c r ok) (record_read-done c r m (number-granted h))

  pub record_read-full : length m < answer_bytes (record_judged c r) → (record_read c r m).answer.number ≡ 5
  record_read-full h = record_read-number c r m ∙ number-full h

-- ---- done or refused, only the content's bytes are written
module _ (c : Context) (r m : List ℕ) where
  pub content-bytes : record_number (lent (length m)) c r ≡ 0
      → (length (record_content c r) ≡ answer_bytes (record_held c r)) × (length (record_content c r) ≤ length m)
  unfolding record_held record_content
  content-bytes e =
      let L = lawful (kind_field r) in
      let own = (record_number-read (lent (length m)) c r e).parts.own in
      let there = own-content L c (body_of r) (lent (length m)) own in
      (there.0, rw there.0 (less_number-zero (length m) _ 4 there.1))

  -- what a done reading wrote, and where
  pub record_read-within : Within (answer_bytes (record_read c r m).answer) m (record_read c r m)
  record_read-within = by_number (record_number (lent (length m)) c r) refl
    where
      by_number : (e : ℕ) → record_number (lent (length m)) c r ≡ e
          → Within (answer_bytes (record_read c r m).answer) m (record_read c r m)
      by_number zero e =
          let b = content-bytes e in
          rw (record_read-done c r m e)
          (writes-within (record_held c r) (answer_bytes (record_held c r)) (record_content c r) m b.0 (rw b.0 at b.1))
      by_number (suc k) e = rw (record_read-refuses c r m k e) (record { size = refl; rest = refl })
