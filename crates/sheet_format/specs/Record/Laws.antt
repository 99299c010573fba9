-- The laws of a record's number: it is 0 exactly where each of its parts is. Assumes nothing.
use Rattle.std.specs.Prelude.{ℕ, ◌+◌, ◌-◌, ◌≤◌, ◌<◌, ◌≡◌, List, length, take, drop, ltb}
use Rattle.std.proofs.Math.Decide.{dec_lt}
use Rattle.std.proofs.Common.{arith, ap, ◌∙◌, lt-ltb, le-ltb}
use Rattle.std.proofs.Math.Logic.{by_cases}
use Rattle.answer.specs.Outcome.{◌or_else◌, refuse_if, Lent}
use Rattle.answer.specs.Outcome.Laws.{less_number-zero, or_else-zero-left, or_else-zero-right}
use Rattle.row_format.specs.Lists.Laws.{drop-take}
use Rattle.sheet_format.specs.Context.{Context}
use Rattle.sheet_format.specs.Kind.{Kind}
use Rattle.sheet_format.specs.Kinds.{kind_of}
use Rattle.sheet_format.specs.Record.{length_field, kind_field, body_of, length_number, content_number, record_number}

-- ---- the length
pub record RightLength (r : List ℕ) : Type 0 where
  pub least : 2 ≤ length_field r
  pub most : length_field r ≤ 32774
  pub there : 4 + length_field r ≤ length r

pub length_number-right : (r : List ℕ) → RightLength r → length_number r ≡ 0
unfolding length_number
length_number-right r h =
    rw (
      le-ltb (length r) 4 (omega (arith, h.there)),
      le-ltb (length_field r) 2 h.least,
      le-ltb 32774 (length_field r) h.most,
      le-ltb (length r) (4 + length_field r) h.there,
    )

pub right-length : (r : List ℕ) → length_number r ≡ 0 → RightLength r
unfolding length_number
right-length r e =
    let four = refuse_if (ltb (length r) 4) 14 in
    let small = refuse_if (ltb (length_field r) 2) 14 in
    let large = refuse_if (ltb 32774 (length_field r)) 14 in
    let past = refuse_if (ltb (length r) (4 + length_field r)) 14 in
    let e1 = or_else-zero-right four (small or_else large or_else past) e in
    let e2 = or_else-zero-right small (large or_else past) e1 in
    record {
      least = less_number-zero (length_field r) 2 13 (or_else-zero-left small (large or_else past) e1);
      most = less_number-zero 32774 (length_field r) 13 (or_else-zero-left large past e2);
      there = less_number-zero (length r) (4 + length_field r) 13 (or_else-zero-right large past e2);
    }

-- a length outside its limits is refused whatever follows
pub length_number-wrong : (r : List ℕ) → (2 ≤ length_field r → 32774 < length_field r) → length_number r ≡ 14
unfolding length_number
length_number-wrong r h =
    by_cases (dec_lt (length r) 4) (λ short. rw (lt-ltb (length r) 4 short))
    (λ four. by_cases (dec_lt (length_field r) 2)
    (λ small. rw (le-ltb (length r) 4 (omega arith), lt-ltb (length_field r) 2 small))
    (λ large. rw (
      le-ltb (length r) 4 (omega arith),
      le-ltb (length_field r) 2 (omega arith),
      lt-ltb 32774 (length_field r) (h (omega arith)),
    )))

-- the record's bytes from place 6 on
pub body_of-whole : (r : List ℕ) → drop 6 (take (4 + length_field r) r) ≡ body_of r
body_of-whole r =
    let same : 4 + length_field r - 6 ≡ length_field r - 2 = omega arith in
    drop-take 6 (4 + length_field r) r ∙ ap (λ (k : ℕ). take k (drop 6 r)) same

-- ---- the parts after the kind
pub record ContentPassed (k : Kind) (m : Lent) (c : Context) (b : List ℕ) : Type 0 where
  pub fixed : k.fixed b ≡ 0
  pub place : k.place c (k.heading b) ≡ 0
  pub own : k.own m c b ≡ 0

module _ (k : Kind) (m : Lent) (c : Context) (b : List ℕ) where
  pub content_number-passed : ContentPassed k m c b → content_number k m c b ≡ 0
  unfolding content_number
  content_number-passed p = rw (p.fixed, p.place, p.own)

  pub content-passed : content_number k m c b ≡ 0 → ContentPassed k m c b
  unfolding content_number
  content-passed e =
      let place = k.place c (k.heading b) in
      let own = k.own m c b in
      let rest = or_else-zero-right (k.fixed b) (place or_else own) e in
      record {
        fixed = or_else-zero-left (k.fixed b) (place or_else own) e;
        place = or_else-zero-left place own rest;
        own = or_else-zero-right place own rest;
      }

-- ---- the whole record
pub record RecordAccepted (m : Lent) (c : Context) (r : List ℕ) : Type 0 where
  pub size : RightLength r
  pub readable : (kind_of (kind_field r)).readable ≡ 0
  pub parts : ContentPassed (kind_of (kind_field r)) m c (body_of r)

pub record_number-read : (m : Lent) (c : Context) (r : List ℕ) → record_number m c r ≡ 0 → RecordAccepted m c r
unfolding record_number
record_number-read m c r e =
    let k = kind_of (kind_field r) in
    let rest = or_else-zero-right (length_number r) _ e in
    record {
      size = right-length r (or_else-zero-left (length_number r) _ e);
      readable = or_else-zero-left k.readable _ rest;
      parts = content-passed k m c (body_of r) (or_else-zero-right k.readable _ rest);
    }

pub read-record_number : (m : Lent) (c : Context) (r : List ℕ) → RecordAccepted m c r → record_number m c r ≡ 0
unfolding record_number
read-record_number m c r h =
    rw (length_number-right r h.size, h.readable)
    (content_number-passed (kind_of (kind_field r)) m c (body_of r) h.parts)
