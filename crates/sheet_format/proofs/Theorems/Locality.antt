-- Reading a record looks at no byte after it. Assumes nothing.
use Rattle.std.specs.Prelude.{ℕ, ◌+◌, ◌-◌, ◌≤◌, ◌<◌, ◌≡◌, refl, List, [], ◌++◌, length, take, drop}
use Rattle.std.proofs.Math.Decide.{dec_lt}
use Rattle.std.proofs.Common.{arith, sym, ap, ◌∙◌, append-nil, length-append, length-drop, take-take, length-take-le, take_all, le-ltb, lt-ltb}
use Rattle.std.proofs.Math.Logic.{by_cases}
use Rattle.std.proofs.lemmas.List.{take-append-le, drop-append-le}
use Rattle.bitstream.specs.Bits.{number_of}
use Rattle.row_format.specs.Lists.Laws.{field-take}
use Rattle.answer.specs.Outcome.{outcome, Lent, nothing, lent}
use Rattle.sheet_format.specs.Context.{Context}
use Rattle.sheet_format.specs.Record.{length_field, kind_field, body_of, length_number, record_number, record_span}
use Rattle.sheet_format.specs.Record.Laws.{RightLength, right-length, length_number-right, length_number-wrong}
use Rattle.sheet_format.specs.Reading.{record_held, record_content, context_after, refused_record, record_stop, record_judged, record_read}
use Rattle.sheet_format.specs.Reading.Laws.{record_content-of, record_stop-of, context_after-of, judged-read, judged-held}

pub field-front : (at n k : ℕ) (l rest : List ℕ) → at + n ≤ k → k ≤ length l
    → take n (drop at (take k l ++ rest)) ≡ take n (drop at l)
field-front at n k l rest h there =
    let size : length (take k l) ≡ k = length-take-le k l there in
    let left : length (drop at (take k l)) ≡ k - at = length-drop at (take k l) ∙ ap (◌- at) size in
    rw (drop-append-le at (take k l) rest (omega arith), take-append-le n (drop at (take k l)) rest (omega arith))
    (field-take at n k l h)

-- two runs of bytes with the same fields
pub record Alike (r s : List ℕ) : Type 0 where
  pub size : length_number s ≡ length_number r
  pub whole : length_field s ≡ length_field r
  pub kind : kind_field s ≡ kind_field r
  pub body : body_of s ≡ body_of r

module _ (r s : List ℕ) (a : Alike r s) (c : Context) where
  pub record_number-alike : (m : Lent) → record_number m c s ≡ record_number m c r
  unfolding record_number
  record_number-alike m = rw (a.size, a.body, a.kind)

  pub record_held-alike : record_held c s ≡ record_held c r
  unfolding record_held
  record_held-alike = rw (a.body, a.kind, a.whole)

  pub record_content-alike : record_content c s ≡ record_content c r
  record_content-alike = record_content-of c s a.kind a.body ∙ sym (record_content-of c r refl refl)

  pub context_after-alike : context_after c s ≡ context_after c r
  context_after-alike = context_after-of c s a.kind a.body ∙ sym (context_after-of c r refl refl)

  record_stop-alike : record_stop c s ≡ record_stop c r
  record_stop-alike = record_stop-of c s a.kind a.body ∙ sym (record_stop-of c r refl refl)

  pub record_read-alike : (m : List ℕ) → record_read c s m ≡ record_read c r m
  unfolding record_read
  record_read-alike m = rw (record_number-alike (lent (length m)), record_stop-alike, record_held-alike, record_content-alike)

  pub record_judged-alike : record_judged c s ≡ record_judged c r
  unfolding record_judged
  record_judged-alike = rw (record_number-alike nothing, record_stop-alike, record_held-alike)

-- ---- a record whose length is right: anything may follow it
module _ (r rest : List ℕ) (h : RightLength r) where
  same_length : length_field (take (4 + length_field r) r ++ rest) ≡ length_field r
  same_length = ap number_of (field-front 0 4 (4 + length_field r) r rest (omega arith) h.there)

  same_kind : kind_field (take (4 + length_field r) r ++ rest) ≡ kind_field r
  same_kind = ap number_of (field-front 4 2 (4 + length_field r) r rest (omega (arith, h.least)) h.there)

  same_body : body_of (take (4 + length_field r) r ++ rest) ≡ body_of r
  same_body =
      rw same_length (field-front 6 (length_field r - 2) (4 + length_field r) r rest (omega (arith, h.least)) h.there)

  same-right : RightLength (take (4 + length_field r) r ++ rest)
  same-right = record {
    least = rw same_length h.least;
    most = rw same_length h.most;
    there = rw same_length
        (omega (arith, length-append (take (4 + length_field r) r) rest, length-take-le (4 + length_field r) r h.there));
  }

  pub alike : Alike r (take (4 + length_field r) r ++ rest)
  alike = record {
    size = length_number-right (take (4 + length_field r) r ++ rest) same-right ∙ sym (length_number-right r h);
    whole = same_length;
    kind = same_kind;
    body = same_body;
  }

-- bytes that are judged and read alike: they have the same fields, or both have a wrong length
pub data Same (r s : List ℕ) : Type 0 where
  fields : Alike r s → Same r s
  unfit : length_number r ≡ 14 → length_number s ≡ 14 → Same r s

module _ (c : Context) where
  refused-read : (s m : List ℕ) → length_number s ≡ 14 → record_read c s m ≡ outcome (refused_record 0 14) m
  unfolding record_read record_number
  refused-read s m e = rw e

  refused-judged : (s : List ℕ) → length_number s ≡ 14 → record_judged c s ≡ refused_record 0 14
  unfolding record_judged record_number
  refused-judged s e = rw e

  pub record_read-same : (r s m : List ℕ) → Same r s → record_read c s m ≡ record_read c r m
  record_read-same r s m (fields a) = record_read-alike r s a c m
  record_read-same r s m (unfit e d) = refused-read s m d ∙ sym (refused-read r m e)

  pub record_judged-same : (r s : List ℕ) → Same r s → record_judged c s ≡ record_judged c r
  record_judged-same r s (fields a) = record_judged-alike r s a c
  record_judged-same r s (unfit e d) = refused-judged s d ∙ sym (refused-judged r e)

-- ---- the bytes that a reader has to hold
record_span-outside : (r : List ℕ) → (2 ≤ length_field r → 32774 < length_field r) → record_span r ≡ 4
unfolding record_span
record_span-outside r h =
    by_cases (dec_lt (length_field r) 2) (λ small. rw (lt-ltb (length_field r) 2 small))
    (λ large. rw (le-ltb (length_field r) 2 (omega arith), lt-ltb 32774 (length_field r) (h (omega arith))))

record_span-inside : (r : List ℕ) → 2 ≤ length_field r → length_field r ≤ 32774 → record_span r ≡ 4 + length_field r
unfolding record_span
record_span-inside r least most = rw (le-ltb (length_field r) 2 least, le-ltb 32774 (length_field r) most)

module _ (r : List ℕ) where
  outside : (2 ≤ length_field r → 32774 < length_field r) → Same r (take (record_span r) r)
  outside far =
      let same : length_field (take 4 r) ≡ length_field r = ap number_of (take-take 4 4 r (omega arith)) in
      rw (record_span-outside r far) (unfit (length_number-wrong r far) (length_number-wrong (take 4 r) (rw same far)))

  inside : 2 ≤ length_field r → length_field r ≤ 32774 → record_span r < length r → Same r (take (record_span r) r)
  inside least most h =
      let span = record_span-inside r least most in
      let right : RightLength r = record { least = least; most = most; there = omega arith } in
      rw (span, sym (append-nil (take (4 + length_field r) r))) (fields (alike r [] right))

  pub span_same : Same r (take (record_span r) r)
  span_same =
      by_cases (dec_lt (record_span r) (length r))
      (λ h. by_cases (dec_lt (length_field r) 2) (λ small. outside (λ g. absurd (omega arith)))
      (λ least. by_cases (dec_lt 32774 (length_field r)) (λ large. outside (λ g. large))
      (λ most. inside (omega arith) (omega arith) h)))
      (λ h. rw (take_all (record_span r) r (omega arith))
      (fields (record { size = refl; whole = refl; kind = refl; body = refl })))

  -- of an accepted record they have its body, and all its bytes
  module _ (c : Context) (ok : (record_judged c r).number ≡ 0) where
    right : RightLength r
    right = (judged-read c r ok).size

    pub span-whole : record_span r ≡ (record_judged c r).length
    unfolding record_held
    span-whole = record_span-inside r right.least right.most ∙ rw (judged-held c r ok)

    pub span-body : body_of (take (record_span r) r) ≡ body_of r
    span-body =
        rw (record_span-inside r right.least right.most, sym (append-nil (take (4 + length_field r) r))) (same_body r [] right)

-- ---- the calls
pub record-alike : (c : Context) (r : List ℕ) → length_number r ≡ 0 → (rest : List ℕ)
    → let front = take (4 + length_field r) r in
    (record_judged c (front ++ rest) ≡ record_judged c r) × ((m : List ℕ) → record_read c (front ++ rest) m ≡ record_read c r m)
record-alike c r e rest =
    let same = alike r rest (right-length r e) in
    (record_judged-alike r _ same c, record_read-alike r _ same c)

pub span-alike : (c : Context) (r : List ℕ)
    → (record_judged c (take (record_span r) r) ≡ record_judged c r)
    × ((m : List ℕ) → record_read c (take (record_span r) r) m ≡ record_read c r m)
span-alike c r = (record_judged-same c r _ (span_same r), λ m. record_read-same c r _ m (span_same r))
