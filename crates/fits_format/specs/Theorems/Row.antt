-- The row call: its numbers, what a refusal keeps, what a done call writes, and that its heights are its pixels. Assumes
-- nothing.
use Rattle.std.specs.Prelude.{ℕ, zero, suc, ◌≤◌, ◌≡◌, true, false, List, map, length, ltb, eqb, pos}
use Rattle.std.proofs.Common.{arith, sym, ap, ◌∙◌}
use Rattle.std.proofs.Math.Path.{refl}
use Rattle.answer.specs.declared.Answer.{Answer}
use Rattle.answer.specs.Outcome.{Outcome, answer_of, refusal, refused, wrote, refuse_if, lent, Kept, Within}
use Rattle.answer.specs.Outcome.Laws.{less_number-none, or_else-none, refuse_if-in, or_else-in, room_number-in, unless-in, unless-kept, writes-within}
use Rattle.row_format.specs.Lists.{any}
use Rattle.fits_format.specs.Image.{big_endian, signed_pixels, out_of_range, row_heights, row_record, before_pixels, image_row_number, image_row_numbers, image_row}
use Rattle.fits_format.specs.Image.Laws.{out_of_range-any, heights-same, pixels-same}
use Rattle.fits_format.specs.Image.Room.{length-row_record}
use Rattle.fits_format.specs.Image.Call.{before_pixels-zero, before_pixels-in, image_row-number, image_row-heights, image_row-room}

module _ (P : ℕ → Type 0) (p0 : P 0) (p17 : P 17) (p11 : P 11) (p18 : P 18) (p4 : P 4) (p5 : P 5) where
  image_row_number-in : (w r : ℕ) (s : List ℕ) (room : ℕ) → P (image_row_number w r s room)
  unfolding image_row_number
  image_row_number-in w r s room =
      or_else-in P (before_pixels w r (length s)) _ (before_pixels-in w r (length s) P p0 p17 p11 p18)
      (or_else-in P (refuse_if (any out_of_range (signed_pixels w s)) 4) _ (refuse_if-in P (any out_of_range (signed_pixels w s)) 4 p0 p4)
      (room_number-in P (lent room) (length (row_record w r s)) p0 p5))

module _ (w r : ℕ) (s m : List ℕ) where
  pub image_row-numbers : any (eqb (image_row w r s m).answer.number) image_row_numbers ≡ true
  unfolding any
  image_row-numbers =
      rw (image_row-number w r s m)
      (image_row_number-in (λ e. any (eqb e) image_row_numbers ≡ true) refl refl refl refl refl refl w r s (length m))

  pub image_row-kept : ((image_row w r s m).answer.number ≡ 0 → ⊥) → Kept (refusal (image_row w r s m).answer.number) m (image_row w r s m)
  unfolding image_row
  image_row-kept =
      unless-kept refusal m (wrote (length (row_record w r s)) (row_record w r s) m) (λ (a : Answer). a.number) (λ k. refl)
      (image_row_number w r s (length m)) (λ some. absurd (some refl))

  pub image_row-within : Within (image_row w r s m).answer.count m (image_row w r s m)
  unfolding image_row
  image_row-within =
      let b = row_record w r s in
      unless-in (λ (o : Outcome Answer). Within o.answer.count m o) (image_row_number w r s (length m)) (λ e. refused e m)
      (wrote (length b) b m)
      (λ k e. record { size = refl; rest = refl })
      (λ e. writes-within (answer_of 0 (length b)) (length b) b m refl (image_row-room w r s m e))

  -- ---- room
  number_past : before_pixels w r (length s) ≡ 0 → length (row_record w r s) ≤ length m
      → image_row_number w r s (length m) ≡ refuse_if (any out_of_range (signed_pixels w s)) 4
  unfolding image_row_number
  number_past e room =
      rw (e, less_number-none (length m) (length (row_record w r s)) 5 room)
      (or_else-none (refuse_if (any out_of_range (signed_pixels w s)) 4))

  number-before : (k : ℕ) → before_pixels w r (length s) ≡ suc k → image_row_number w r s (length m) ≡ suc k
  unfolding image_row_number
  number-before k e = rw e

  pub image_row-room-enough : 7178 ≤ length m → (image_row w r s m).answer.number ≡ 5 → ⊥
  image_row-room-enough enough full = by_before (before_pixels w r (length s)) refl
    where
      number : image_row_number w r s (length m) ≡ 5
      number = sym (image_row-number w r s m) ∙ full

      by_before : (b : ℕ) → before_pixels w r (length s) ≡ b → ⊥
      by_before zero e =
          let most = length-row_record w r s (before_pixels-zero w r (length s) e).narrow in
          refuse_if-in (λ k. k ≡ 5 → ⊥) (any out_of_range (signed_pixels w s)) 4 (λ z. omega (arith, z)) (λ z. omega (arith, z))
          (sym (number_past e (omega (arith, most, enough))) ∙ number)
      by_before (suc k) e =
          let five : before_pixels w r (length s) ≡ 5 = e ∙ sym (number-before k e) ∙ number in
          before_pixels-in w r (length s) (λ b. b ≡ 5 → ⊥)
          (λ z. omega (arith, z)) (λ z. omega (arith, z)) (λ z. omega (arith, z)) (λ z. omega (arith, z)) five

  -- ---- pixels
  pub image_row-pixel : before_pixels w r (length s) ≡ 0 → any out_of_range (signed_pixels w s) ≡ true → image_row w r s m ≡ refused 4 m
  unfolding image_row image_row_number
  image_row-pixel before out = rw (before, out)

  pub image_row-same : (image_row w r s m).answer.number ≡ 0 → map pos (row_heights w s) ≡ signed_pixels w s
  image_row-same e =
      let heights = image_row-heights w r s m (sym (image_row-number w r s m) ∙ e) in
      let low : any (ltb 4095) (big_endian w s) ≡ false = sym (out_of_range-any (big_endian w s)) ∙ heights in
      ap (map pos) (heights-same (big_endian w s) low) ∙ pixels-same (big_endian w s) low
