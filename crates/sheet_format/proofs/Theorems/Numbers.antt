-- The record calls answer a number from document 01, and only those that it lists for the call. Each law is over any property
-- P that these numbers have. Assumes nothing.
use Rattle.std.specs.Prelude.{ℕ, ◌+◌, ◌≡◌, refl, true, List, ◌∷◌, length, ltb, eqb}
use Rattle.answer.specs.Outcome.{refuse_if, Lent, nothing, lent}
use Rattle.answer.specs.Outcome.Laws.{refuse_if-in, or_else-in}
use Rattle.row_format.specs.Lists.{any}
use Rattle.row_format.specs.Lists.Laws.{by-test}
use Rattle.sheet_format.specs.Context.{Heading, Context}
use Rattle.sheet_format.specs.Kind.Lawful.{ListedBody, ListedBits, ListedPlace, ListedGiven, listed_in, bits_in}
use Rattle.sheet_format.specs.Kinds.{kind_of}
use Rattle.sheet_format.specs.Kinds.Laws.{lawful}
use Rattle.sheet_format.specs.Record.{length_field, kind_field, body_of, length_number, content_number, record_number}
use Rattle.sheet_format.specs.Reading.{judged_numbers, record_judged, record_read}
use Rattle.sheet_format.specs.Reading.Laws.{record_judged-number, record_read-number}
use Rattle.sheet_format.specs.Writing.{record_for, write_number, written_numbers, record_written}
use Rattle.sheet_format.specs.Writing.Laws.{record_written-number}

module _ (P : ℕ → Type 0) where
  pub length_number-in : P 0 → P 14 → (r : List ℕ) → P (length_number r)
  unfolding length_number
  length_number-in p0 p14 r =
      or_else-in P (refuse_if (ltb (length r) 4) 14) _ (refuse_if-in P (ltb (length r) 4) 14 p0 p14)
      (or_else-in P (refuse_if (ltb (length_field r) 2) 14) _ (refuse_if-in P (ltb (length_field r) 2) 14 p0 p14)
      (or_else-in P (refuse_if (ltb 32774 (length_field r)) 14) _ (refuse_if-in P (ltb 32774 (length_field r)) 14 p0 p14)
      (refuse_if-in P (ltb (length r) (4 + length_field r)) 14 p0 p14)))

  pub record_number-in : ListedBody P → ListedPlace P → (m : Lent) (c : Context) (r : List ℕ)
      → P ((kind_of (kind_field r)).own m c (body_of r)) → P (record_number m c r)
  unfolding record_number content_number
  record_number-in l place m c r own =
      let k = kind_of (kind_field r) in
      let L = lawful (kind_field r) in
      let b = body_of r in
      or_else-in P (length_number r) _ (length_number-in l.p0 l.p14 r)
      (or_else-in P k.readable _ (L.readable-in P l)
      (or_else-in P (k.fixed b) _ (L.fixed_in P l b)
      (or_else-in P (k.place c (k.heading b)) _ (L.place_in P place c (k.heading b)) own)))

  write_number-in : ListedGiven P → ListedPlace P → P 5 → (code : ℕ) (h : Heading) (c : Context) (x : List ℕ) (room_bytes : ℕ)
      → P (write_number code h c x room_bytes)
  unfolding write_number
  write_number-in l place p5 code h c x room_bytes =
      let k = kind_of code in
      let L = lawful code in
      or_else-in P k.writable _ (L.writable-in P l)
      (or_else-in P (k.place c h) _ (L.place_in P place c h)
      (or_else-in P (k.given h c x) _ (L.given-in P l h c x)
      (refuse_if-in P (ltb room_bytes (length (record_for code h c x))) 5 l.p0 p5)))

-- ---- the calls' own: that a number is among those listed is computed
abbrev AmongNumbers : List ℕ → ℕ → Type 0
AmongNumbers ns e = any (eqb e) ns ≡ true

judged-listed : ListedBody (AmongNumbers judged_numbers)
unfolding any
judged-listed = record {
  p0 = refl;
  p1 = refl;
  p2 = refl;
  p3 = refl;
  p4 = refl;
  p11 = refl;
  p12 = refl;
  p13 = refl;
  p14 = refl;
  p15 = refl;
}

judged-bits : ListedBits (AmongNumbers judged_numbers)
unfolding any
judged-bits = record { p6 = refl; p7 = refl; p8 = refl; p9 = refl; p10 = refl }

among_later : (n : ℕ) (ns : List ℕ) (e : ℕ) → AmongNumbers ns e → AmongNumbers (n ∷ ns) e
unfolding any
among_later n ns e h = by-test (eqb e n) (λ t. rw t) (λ t. rw t h)

pub record_judged-numbers : (c : Context) (r : List ℕ) → AmongNumbers judged_numbers (record_judged c r).number
unfolding any
record_judged-numbers c r =
    let place : ListedPlace (AmongNumbers judged_numbers) = record { p0 = refl; p16 = refl } in
    rw (record_judged-number c r)
    (record_number-in (AmongNumbers judged_numbers) judged-listed place nothing c r
    ((lawful (kind_field r)).own_in (AmongNumbers judged_numbers) judged-listed judged-bits nothing (λ n. refl) c (body_of r)))

-- with memory lent it is 5, or what judging may answer
pub record_read-numbers : (c : Context) (r m : List ℕ) → AmongNumbers (5 ∷ judged_numbers) (record_read c r m).answer.number
unfolding any
record_read-numbers c r m =
    let P : ℕ → Type 0 = AmongNumbers (5 ∷ judged_numbers) in
    let later : (e : ℕ) → AmongNumbers judged_numbers e → P e = among_later 5 judged_numbers in
    let listed = listed_in later judged-listed in
    rw (record_read-number c r m)
    (record_number-in P listed (record { p0 = refl; p16 = refl }) (lent (length m)) c r
    ((lawful (kind_field r)).own_in P listed (bits_in later judged-bits) (lent (length m))
    (λ n. refuse_if-in P (ltb (length m) n) 5 refl refl) c (body_of r)))

pub record_written-numbers : (code : ℕ) (h : Heading) (c : Context) (x m : List ℕ)
    → AmongNumbers written_numbers (record_written code h c x m).answer.number
unfolding any
record_written-numbers code h c x m =
    let P : ℕ → Type 0 = AmongNumbers written_numbers in
    let given : ListedGiven P = record { p0 = refl; p1 = refl; p2 = refl; p3 = refl; p4 = refl; p11 = refl; p15 = refl } in
    rw (record_written-number code h c x m) (write_number-in P given (record { p0 = refl; p16 = refl }) refl code h c x (length m))
