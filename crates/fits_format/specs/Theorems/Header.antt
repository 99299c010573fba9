-- What demand 1 says of the header call: its numbers, what a refusal keeps, and what a done call writes; and what an
-- accepted header answers. Assumes nothing.
use Prim.Native.Nat.{ℕ, ◌≤◌}
use Rattle.std.proofs.Common.{arith, sym, ◌∙◌}
use Rattle.std.specs.Prelude.{◌≡◌, Bool, false, List, length, pos, negsuc, eqb}
use Rattle.std.proofs.Math.Path.{refl}
use Rattle.std.proofs.Math.Bool.{true}
use borrow.Author.Tests.{ltb-false, not-false}
use Rattle.answer.specs.Outcome.{Outcome, outcome, writes, ◌or_else◌, refuse_if, lent, room_number, Kept, Within}
use Rattle.answer.specs.Outcome.Laws.{refuse_if-zero, less_number-zero, or_else-zero-left, or_else-zero-right, refuse_if-in, or_else-in, room_number-in, unless-number, unless-in, unless-kept, writes-within}
use Rattle.row_format.specs.Lists.{any}
use Rattle.row_format.specs.Lists.Laws.{true-false}
use Rattle.fits_format.specs.declared.ImageHeader.{ImageHeader}
use Rattle.fits_format.specs.Card.{FieldValue, no_integer, is_integer}
use Rattle.fits_format.specs.Header.{header_cards, axis1, axis2, lacking, below_one, above_most, axis_length, stands, header_clauses, header_number, plain_table_record, no_image, image_of, header_numbers, header_read, HeaderAccepted}
use Rattle.fits_format.specs.Header.Laws.{length-plain_table_record}
use Rattle.fits_format.specs.Header.Clauses.{long_number, header_number-parts, accepted-clause, accepted-long}
use Rattle.fits_format.specs.Theorems.Span.{end-few, end_whole}

axis-least : (v : FieldValue) → lacking v ≡ false → below_one v ≡ false → 1 ≤ axis_length v
axis-least no_integer there least = true-false refl there
axis-least (is_integer (pos k)) there least = ltb-false k 1 least
axis-least (is_integer (negsuc k)) there least = true-false refl least

axis-is : (v : FieldValue) → lacking v ≡ false → below_one v ≡ false → v ≡ is_integer (pos (axis_length v))
axis-is no_integer there least = true-false refl there
axis-is (is_integer (pos k)) there least = refl
axis-is (is_integer (negsuc k)) there least = true-false refl least

axis-most : (v : FieldValue) → above_most v ≡ false → axis_length v ≤ 4096
axis-most no_integer most = omega arith
axis-most (is_integer (pos k)) most = ltb-false 4096 k most
axis-most (is_integer (negsuc k)) most = omega arith

module _ (P : ℕ → Type 0) (p0 : P 0) (p17 : P 17) (p11 : P 11) where
  header_number-in : (s : List ℕ) → P (header_number s)
  unfolding long_number
  header_number-in s =
      let unfit = any (λ (b : Bool). b) (header_clauses s) in
      rw (header_number-parts s)
      (or_else-in P (refuse_if unfit 17) _ (refuse_if-in P unfit 17 p0 p17)
      (or_else-in P (refuse_if (above_most (axis1 s)) 11) _ (refuse_if-in P (above_most (axis1 s)) 11 p0 p11)
      (refuse_if-in P (above_most (axis2 s)) 11 p0 p11)))

module _ (s m : List ℕ) where
  abbrev room : ℕ
  room = room_number (lent (length m)) (length plain_table_record)

  pub header_read-number : (header_read s m).answer.number ≡ header_number s or_else room
  unfolding header_read
  header_read-number =
      unless-number (λ (o : Outcome ImageHeader). o.answer.number) (λ e. outcome (no_image e) m)
      (writes (image_of s) plain_table_record m) (λ k. refl) (header_number s or_else room) refl

  pub header_read-numbers : any (eqb (header_read s m).answer.number) header_numbers ≡ true
  unfolding any
  header_read-numbers =
      let P : ℕ → Type 0 = λ e. any (eqb e) header_numbers ≡ true in
      rw header_read-number
      (or_else-in P (header_number s) room (header_number-in P refl refl refl s)
      (room_number-in P (lent (length m)) (length plain_table_record) refl refl))

  pub header_read-kept : ((header_read s m).answer.number ≡ 0 → ⊥)
      → Kept (no_image (header_read s m).answer.number) m (header_read s m)
  unfolding header_read
  header_read-kept =
      unless-kept no_image m (writes (image_of s) plain_table_record m) (λ (a : ImageHeader). a.number) (λ k. refl)
      (header_number s or_else room) (λ some. absurd (some refl))

  pub header_read-within : Within (header_read s m).answer.count m (header_read s m)
  unfolding header_read
  header_read-within =
      unless-in (λ (o : Outcome ImageHeader). Within o.answer.count m o) (header_number s or_else room)
      (λ e. outcome (no_image e) m) (writes (image_of s) plain_table_record m)
      (λ k e. record { size = refl; rest = refl })
      (λ e.
      let fits = less_number-zero (length m) (length plain_table_record) 4 (or_else-zero-right (header_number s) room e) in
      writes-within (image_of s) (length plain_table_record) plain_table_record m refl fits)

  module _ (ok : (header_read s m).answer.number ≡ 0) where
    none : header_number s or_else room ≡ 0
    none = sym header_read-number ∙ ok

    accepted : header_number s ≡ 0
    accepted = or_else-zero-left (header_number s) room none

    -- it is the definition's image
    pub header_read-image : (header_read s m).answer ≡ image_of s
    unfolding header_read
    header_read-image = rw none

    image-found : HeaderAccepted s (image_of s)
    unfolding header_clauses long_number
    image-found =
        let clause = accepted-clause s accepted in
        let long = accepted-long s accepted in
        let end = not-false (stands "END     " (header_cards s)) (clause 9) in
        let first = refuse_if-zero (above_most (axis1 s)) 10 (or_else-zero-left (refuse_if (above_most (axis1 s)) 11) _ long) in
        let second = refuse_if-zero (above_most (axis2 s)) 10 (or_else-zero-right (refuse_if (above_most (axis1 s)) 11) _ long) in
        record {
          width = axis-is (axis1 s) (clause 3) (clause 5);
          rows = axis-is (axis2 s) (clause 4) (clause 6);
          width-least = axis-least (axis1 s) (clause 3) (clause 5);
          width-most = axis-most (axis1 s) first;
          rows-least = axis-least (axis2 s) (clause 4) (clause 6);
          rows-most = axis-most (axis2 s) second;
          end-stands = end;
          end_whole = end_whole s end;
          start-block = omega arith;
          start-least = omega arith;
          start-most = omega (arith, end-few s end);
          start-past = omega arith;
          start-next = omega arith;
          count = length-plain_table_record;
        }

    pub header_read-accepted : HeaderAccepted s (header_read s m).answer
    header_read-accepted = rw header_read-image image-found
