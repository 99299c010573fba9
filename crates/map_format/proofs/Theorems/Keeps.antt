-- Demand 1 for the two calls: the numbers that they answer, what a refused one leaves, and how much a done one writes. Assumes
-- nothing.
use Rattle.std.specs.Prelude.{ℕ, ◌*◌, ◌≡◌, refl, true, List, length, eqb}
use Rattle.std.proofs.Common.{ap, ◌∙◌}
use Rattle.answer.specs.Outcome.{answer_of, refusal, Kept, Within}
use Rattle.answer.specs.Outcome.Laws.{writes-within}
use Rattle.bitstream.specs.Bits.{flat, halves_of}
use Rattle.bitstream.specs.Bits.Laws.{length_cut}
use Rattle.row_format.specs.Lists.{any}
use Rattle.row_format.specs.Row.{pixel_bytes}
use Rattle.map_format.specs.Calls.{position_bits, map_read_numbers, map_read, map_bytes, map_written_numbers, map_written}
use Rattle.map_format.specs.Verdict.{MapBegins}
use Rattle.map_format.proofs.Verdict.Laws.{map_read-by, map_written-by}
use Rattle.map_format.proofs.Theorems.Refused.{map-counts}

-- ---- reading
module _ (g : ℕ) (s : List ℕ) (total : ℕ) (m : List ℕ) where
  pub read-numbers : any (eqb (map_read g s total m).answer.number) map_read_numbers ≡ true
  unfolding any
  read-numbers =
      map_read-by g s total m (λ o. any (eqb o.answer.number) map_read_numbers ≡ true) (λ h. refl) (λ h l. refl) (λ ok u. refl)
      (λ ok f. refl) (λ ok xs r f h. refl) (λ ok xs r f h. refl)

  pub read_kept : ((map_read g s total m).answer.number ≡ 0 → ⊥)
      → Kept (refusal (map_read g s total m).answer.number) m (map_read g s total m)
  read_kept =
      map_read-by g s total m (λ o. (o.answer.number ≡ 0 → ⊥) → Kept (refusal o.answer.number) m o)
      (λ h some. record { answer = refl; memory = refl }) (λ h l some. record { answer = refl; memory = refl })
      (λ ok u some. record { answer = refl; memory = refl }) (λ ok f some. record { answer = refl; memory = refl })
      (λ ok xs r f h some. record { answer = refl; memory = refl }) (λ ok xs r f h some. absurd (some refl))

  map-bytes : (xs r : List ℕ) → MapBegins g s xs r → length (pixel_bytes xs) ≡ 32768
  map-bytes xs r f = length_cut 8 (2 * length xs) (flat 16 xs) ∙ ap (2 *◌) (map-counts g s xs r f)

  -- done or refused
  pub read-within : Within 32768 m (map_read g s total m)
  read-within =
      map_read-by g s total m (Within 32768 m) (λ h. record { size = refl; rest = refl }) (λ h l. record { size = refl; rest = refl })
      (λ ok u. record { size = refl; rest = refl }) (λ ok f. record { size = refl; rest = refl })
      (λ ok xs r f h. record { size = refl; rest = refl })
      (λ ok xs r f h. writes-within (answer_of 0 _) 32768 (pixel_bytes xs) m (map-bytes xs r f) ok.room)

-- ---- writing
module _ (g : ℕ) (s m : List ℕ) where
  pub written-numbers : any (eqb (map_written g s m).answer.number) map_written_numbers ≡ true
  unfolding any
  written-numbers =
      map_written-by g s m (λ o. any (eqb o.answer.number) map_written_numbers ≡ true) (λ h. refl) (λ ok h. refl) (λ ok h. refl)

  pub written-kept : ((map_written g s m).answer.number ≡ 0 → ⊥)
      → Kept (refusal (map_written g s m).answer.number) m (map_written g s m)
  written-kept =
      map_written-by g s m (λ o. (o.answer.number ≡ 0 → ⊥) → Kept (refusal o.answer.number) m o)
      (λ h some. record { answer = refl; memory = refl }) (λ ok h some. record { answer = refl; memory = refl })
      (λ ok h some. absurd (some refl))

  pub written-within : Within (map_written g s m).answer.count m (map_written g s m)
  written-within =
      let bytes = map_bytes (position_bits g) (halves_of s) in
      map_written-by g s m (λ o. Within o.answer.count m o) (λ h. record { size = refl; rest = refl })
      (λ ok h. record { size = refl; rest = refl })
      (λ ok h. writes-within (answer_of 0 (length bytes)) (length bytes) bytes m refl h)
