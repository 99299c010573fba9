-- 46592 bytes of a map in groups of 4, 45440 of one in groups of 16, are never refused 19, whatever they are; no reading uses more.
-- Assumes nothing.
use Rattle.std.specs.Prelude.{ℕ, ◌+◌, ◌-◌, ◌*◌, ◌^◌, ◌≤◌, ◌≡◌, refl, List, length}
use Rattle.std.proofs.Common.{arith, subst, inl, inr}
use Rattle.bitstream.specs.Msb.{msb_bits_of}
use Rattle.bitstream.specs.Msb.Laws.{length-msb_bits_of, below-msb_bits_of}
use Rattle.map_format.specs.Reading.{stops, got, read_groups}
use Rattle.map_format.specs.Reading.Ample.{Ample, read_groups-enough}
use Rattle.map_format.specs.Calls.{position_bits, map_groups, max_map_bytes, map_read}
use Rattle.map_format.proofs.Grammar.Read.{begins-read}
use Rattle.map_format.specs.Verdict.{GroupSize, MapReadable, MapBegins}
use Rattle.map_format.proofs.Verdict.Laws.{unfinished-refused, map_read-by}

-- ---- groups
module _ (k n : ℕ) (b : List ℕ) where
  pub groups-used : (xs r : List ℕ) → read_groups k n b ≡ got xs r → length b - length r ≤ n * (3 + 22 * 2 ^ k)
  groups-used xs r h =
      let used = subst (Ample (n * (3 + 22 * 2 ^ k)) b) h (read_groups-enough k n b) in
      omega arith

  pub groups-enough : n * (3 + 22 * 2 ^ k) ≤ length b → read_groups k n b ≡ stops 19 → ⊥
  groups-enough enough h =
      let less = subst (Ample (n * (3 + 22 * 2 ^ k)) b) h (read_groups-enough k n b) refl in
      absurd (omega arith)

-- ---- the call
map-bits : (g : ℕ) → GroupSize g → map_groups (position_bits g) * (3 + 22 * 2 ^ position_bits g) ≡ 8 * max_map_bytes g
map-bits g (inl e) = rw e
map-bits g (inr e) = rw e

module _ (g : ℕ) (s : List ℕ) (total : ℕ) (m : List ℕ) where
  pub read-enough : max_map_bytes g ≤ length s → (map_read g s total m).answer.number ≡ 19 → ⊥
  read-enough long =
      let k = position_bits g in
      map_read-by g s total m (λ o. o.answer.number ≡ 19 → ⊥) (λ h z. absurd (omega arith)) (λ h l z. absurd (omega arith))
      (λ ok u z. groups-enough k (map_groups k) (msb_bits_of s) (omega (arith, map-bits g ok.size, length-msb_bits_of s))
      (unfinished-refused k (map_groups k) (msb_bits_of s) (below-msb_bits_of s) u))
      (λ ok f z. absurd (omega arith)) (λ ok xs r f h z. absurd (omega arith)) (λ ok xs r f h z. absurd (omega arith))

  pub read-used : (map_read g s total m).answer.count ≤ 8 * max_map_bytes g
  read-used =
      map_read-by g s total m (λ o. o.answer.count ≤ 8 * max_map_bytes g) (λ h. omega arith) (λ h l. omega arith) (λ ok u. omega arith)
      (λ ok f. omega arith) (λ ok xs r f h. omega arith) (λ ok xs r f h. used ok xs r f)
    where
      used : MapReadable g m → (xs r : List ℕ) → MapBegins g s xs r → 8 * length s - length r ≤ 8 * max_map_bytes g
      used ok xs r f =
          let k = position_bits g in
          let most = groups-used k (map_groups k) (msb_bits_of s) xs r (begins-read k (map_groups k) xs (msb_bits_of s) r f) in
          omega (arith, map-bits g ok.size, length-msb_bits_of s)
