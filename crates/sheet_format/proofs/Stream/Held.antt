-- The laws of the bytes that are held of a record. Assumes nothing.
use Rattle.std.specs.Prelude.{ℕ, ◌+◌, ◌≤◌, ◌<◌, ◌≡◌, List, ◌∷◌, length, take}
use Rattle.std.proofs.Math.Decide.{dec_lt}
use Rattle.std.proofs.Common.{arith, sym, ap, ◌∙◌, length-take, take_all, take-take}
use Rattle.std.proofs.Math.Logic.{by_cases}
use borrow.Author.Tests.{lt-ltb, le-ltb}
use Rattle.bitstream.specs.Bits.{number_of}
use Rattle.sheet_format.specs.Context.{Context}
use Rattle.sheet_format.specs.Record.{length_field, record_span}
use Rattle.sheet_format.specs.Reading.{record_judged}
use Rattle.sheet_format.specs.Stream.{held_of}
use Rattle.sheet_format.proofs.Theorems.Locality.{span-whole}

-- ---- how many they are, by the length
module _ (b : List ℕ) where
  pub span_small : length_field b < 2 → record_span b ≡ 4
  unfolding record_span
  span_small h = rw (lt-ltb (length_field b) 2 h)

  module _ (least : 2 ≤ length_field b) where
    pub span-large : 32774 < length_field b → record_span b ≡ 4
    unfolding record_span
    span-large h = rw (le-ltb (length_field b) 2 least, lt-ltb 32774 (length_field b) h)

    pub span_right : length_field b ≤ 32774 → record_span b ≡ 4 + length_field b
    unfolding record_span
    span_right h = rw (le-ltb (length_field b) 2 least, le-ltb 32774 (length_field b) h)

  pub span-least : 4 ≤ record_span b
  span-least =
      by_cases (dec_lt (length_field b) 2) (λ small. omega (arith, span_small small))
      (λ least. by_cases (dec_lt 32774 (length_field b)) (λ large. omega (arith, span-large (omega arith) large))
      (λ most. omega (arith, span_right (omega arith) (omega arith))))

pub held-some : (x : ℕ) (r : List ℕ) → 0 < length (held_of (x ∷ r))
held-some x r = rw (length-take (record_span (x ∷ r)) (x ∷ r)) (omega (arith, span-least (x ∷ r)))

-- they have all of an accepted record
pub bytes-held : (c : Context) (r : List ℕ) → (record_judged c r).number ≡ 0
    → take (record_judged c r).length (held_of r) ≡ take (record_judged c r).length r
bytes-held c r ok = take-take (record_judged c r).length (record_span r) r (omega (arith, span-whole r c ok))

-- ---- which bytes are held whole
-- four or fewer
pub held-short : (b : List ℕ) → length b ≤ 4 → b ≡ held_of b
held-short b h = sym (take_all (record_span b) b (omega (arith, span-least b)))

-- and as many as the length says, or fewer
pub held-span : (b : List ℕ) {n : ℕ} → record_span b ≡ n → length b ≤ n → b ≡ held_of b
held-span b span h = sym (take_all (record_span b) b (omega arith))

-- The bytes that a program holds are those of the input t that is left, so that what comes next is the sheet's: where reading
-- moves the front of t, of some length, and fewer bytes than a record's span only at the end of t. That it does is all that is
-- left to trust of reading.
span-front : (t : List ℕ) (k : ℕ) → 4 ≤ k → record_span (take k t) ≡ record_span t
unfolding record_span
span-front t k h =
    let same : length_field (take k t) ≡ length_field t = ap number_of (take-take 4 k t h) in
    rw same

pub front-held : (t : List ℕ) (k : ℕ) → take k t ≡ held_of (take k t) → (k < record_span (take k t) → length t ≤ k)
    → held_of t ≡ take k t
front-held t k held ends =
    by_cases (dec_lt k (length t))
    (λ more.
    let whole : record_span (take k t) ≤ k =
    by_cases (dec_lt k (record_span (take k t))) (λ less. omega (arith, ends less)) (λ h. omega arith) in
    let span = span-front t k (omega (arith, span-least (take k t))) in
    sym (held ∙ rw span (take-take (record_span t) k t (omega (arith, span)))))
    (λ all. let is = take_all k t (omega arith) in rw is (sym (rw is at held)))
