-- "Spare bits of the last byte are written 0; they and later bytes are not looked at": more bits change no reading but one that is
-- refused 19, and of the bits that a done reading used none can be left away. Assumes nothing.
use Rattle.std.specs.Prelude.{ℕ, zero, suc, ◌+◌, ◌-◌, ◌*◌, ◌<◌, ◌≡◌, refl, eqb}
use Rattle.std.proofs.Common.{arith, ◌∙◌, subst, length-drop, take-append-drop, take_at}
use Rattle.std.proofs.Math.Path.{sym, ap}
use mathlib.Core.List.{List, ◌++◌}
use Rattle.std.proofs.Math.ListN.{length, take, drop, length-append}
use Rattle.answer.specs.declared.Answer.{Answer}
use Rattle.answer.specs.Outcome.{Outcome, refused, wrote, ◌or_else◌, unless, lent, room_number}
use Rattle.bitstream.specs.Bits.{Below}
use Rattle.bitstream.specs.Bits.Laws.{below-take}
use Rattle.bitstream.specs.Msb.{msb_bits_of}
use Rattle.bitstream.specs.Msb.Laws.{length-msb_bits_of, below-msb_bits_of, msb_bits_of-append, msb_bits_of-take}
use Rattle.row_format.specs.Row.{pixel_bytes}
use Rattle.map_format.specs.Reading.{Parse, stops, got, sum, read_groups}
use Rattle.map_format.specs.Reading.Laws.{got-rest}
use Rattle.map_format.specs.Reading.More.{GoesOn, then-goes-on, test-goes-on, read_groups-goes-on}
use Rattle.map_format.specs.Calls.{position_bits, size_number, map_groups, totalled, read_map, map_left, map_read}
use Rattle.map_format.specs.Grammar.{Begins, fault_after, Fault20}
use Rattle.map_format.proofs.Grammar.Exact.{fault20-exact}
use Rattle.map_format.proofs.Grammar.Read.{begins-read, fault20-refused}
use Rattle.map_format.specs.Verdict.{MapReadable, MapBegins}
use Rattle.map_format.proofs.Verdict.Laws.{got-not-stops, groups-by, map_read-refused, map_read-done, map_read-by}

-- ---- groups
module _ (k n : ℕ) (b : List ℕ) where
  pub groups-more : (more xs r : List ℕ) → read_groups k n b ≡ got xs r → read_groups k n (b ++ more) ≡ got xs (r ++ more)
  groups-more more xs r h =
      subst (λ (x : Parse (List ℕ)). GoesOn more x (read_groups k n (b ++ more))) h (read_groups-goes-on more k n b)

  pub groups-refused-more : (more : List ℕ) (e : ℕ) → (e ≡ 19 → ⊥) → read_groups k n b ≡ stops e
      → read_groups k n (b ++ more) ≡ stops e
  groups-refused-more more e other h =
      subst (λ (x : Parse (List ℕ)). GoesOn more x (read_groups k n (b ++ more))) h (read_groups-goes-on more k n b) other

-- a proper part of the bits that were used
module _ (k n : ℕ) (b : List ℕ) (low : Below 2 b) (xs r : List ℕ) (read : read_groups k n b ≡ got xs r) (j : ℕ)
    (part : j < length b - length r) where
  whole : read_groups k n (take j b ++ drop j b) ≡ got xs r
  whole = rw (take-append-drop j b) read

  part-not-read : (ys s : List ℕ) → Begins k n ys (take j b) s → ⊥
  part-not-read ys s f =
      let more = groups-more k n (take j b) (drop j b) ys s (begins-read k n ys (take j b) s f) in
      let same : length (s ++ drop j b) ≡ length r = ap length (got-rest (sym more ∙ whole)) in
      absurd (omega (arith, length-append s (drop j b), length-drop j b))

  part-no-fault : Fault20 k n (take j b) → ⊥
  part-no-fault f =
      got-not-stops whole
      (groups-refused-more k n (take j b) (drop j b) 20 (λ e. absurd (omega arith)) (fault20-refused k n (take j b) f))

  pub groups-cut : read_groups k n (take j b) ≡ stops 19
  groups-cut =
      groups-by k n (take j b) (below-take j b low) (λ x. x ≡ stops 19) (λ ys s f. absurd (part-not-read ys s f))
      (λ f. absurd (part-no-fault f)) (λ u. refl)

-- a part of faulty bits that has not all of the fault's: 20 is not told too early
module _ (k n : ℕ) (b : List ℕ) where
  pub groups-fault-cut : (f : Fault20 k n b) (j : ℕ) → j + length (fault_after f.faulty) < length b
      → read_groups k n (take j b) ≡ stops 19
  groups-fault-cut = fault20-exact k n b

-- ---- the call
-- later bytes
module _ (more : List ℕ) where
  totalled-goes-on : (total : ℕ) (xs r : List ℕ) → GoesOn more (totalled total xs r) (totalled total xs (r ++ more))
  totalled-goes-on total xs r =
      test-goes-on more (eqb (sum xs) total) (got xs r) (stops 21) (got xs (r ++ more)) (stops 21) refl (λ some. refl)

  read_map-goes-on : (k total : ℕ) (b : List ℕ) → GoesOn more (read_map k total b) (read_map k total (b ++ more))
  unfolding read_map
  read_map-goes-on k total b =
      then-goes-on more (read_groups k (map_groups k) b) (read_groups k (map_groups k) (b ++ more)) (totalled total)
      (read_groups-goes-on more k (map_groups k) b) (totalled-goes-on total)

  map_left-goes-on : (n : ℕ) (m : List ℕ) (x y : Parse (List ℕ)) → GoesOn more x y → ((map_left n m x).answer.number ≡ 19 → ⊥)
      → map_left (n + length more) m y ≡ map_left n m x
  map_left-goes-on n m (got xs r) y h other =
      let same : n + length more - length (r ++ more) ≡ n - length r = omega (arith, length-append r more) in
      rw (h, same)
  map_left-goes-on n m (stops e) y h other = rw (h other)

unless-same : (e : ℕ) (f : ℕ → Outcome Answer) (x y : Outcome Answer) → ((x.answer.number ≡ 19 → ⊥) → y ≡ x)
    → ((unless e f x).answer.number ≡ 19 → ⊥) → unless e f y ≡ unless e f x
unless-same zero f x y h other = h other
unless-same (suc e) f x y h other = refl

module _ (g : ℕ) (s : List ℕ) (total : ℕ) (m : List ℕ) where
  pub read_more : (t : List ℕ) → ((map_read g s total m).answer.number ≡ 19 → ⊥) → map_read g (s ++ t) total m ≡ map_read g s total m
  unfolding map_read
  read_more t other =
      let k = position_bits g in
      let first = size_number g or_else room_number (lent (length m)) 32768 in
      let size : 8 * length (s ++ t) ≡ 8 * length s + length (msb_bits_of t) =
      omega (arith, length-append s t, length-msb_bits_of t) in
      rw (size, msb_bits_of-append s t)
      (unless-same first (λ e. refused e m) (map_left (8 * length s) m (read_map k total (msb_bits_of s))) _
      (map_left-goes-on (msb_bits_of t) (8 * length s) m (read_map k total (msb_bits_of s)) (read_map k total (msb_bits_of s ++ msb_bits_of t))
      (read_map-goes-on (msb_bits_of t) k total (msb_bits_of s))) other)

  not-19 : (n : ℕ) (x : Parse (List ℕ)) → (x ≡ stops 19 → ⊥) → (map_left n m x).answer.number ≡ 19 → ⊥
  not-19 n (got xs r) other e = absurd (omega arith)
  not-19 n (stops d) other e = other (ap stops e)

  -- where j bits are enough for an answer, done or refused, all bytes that begin with them get it
  pub read-begun : (t : List ℕ) (j : ℕ) → take j (msb_bits_of t) ≡ take j (msb_bits_of s)
      → (read_map (position_bits g) total (take j (msb_bits_of s)) ≡ stops 19 → ⊥) → map_read g t total m ≡ map_read g s total m
  unfolding map_read
  read-begun t j same other =
      let first = size_number g or_else room_number (lent (length m)) 32768 in
      ap (unless first (λ e. refused e m)) (left t same ∙ sym (left s refl))
    where
      left : (u : List ℕ) → take j (msb_bits_of u) ≡ take j (msb_bits_of s)
          → map_left (8 * length u) m (read_map (position_bits g) total (msb_bits_of u))
          ≡ map_left (length (take j (msb_bits_of s))) m (read_map (position_bits g) total (take j (msb_bits_of s)))
      left u e =
          let k = position_bits g in
          let b = take j (msb_bits_of s) in
          let more = drop j (msb_bits_of u) in
          let all : msb_bits_of u ≡ b ++ more = sym (take-append-drop j (msb_bits_of u)) ∙ ap (◌++ more) e in
          let size : 8 * length u ≡ length b + length more = sym (length-msb_bits_of u) ∙ ap length all ∙ length-append b more in
          ap (map_left (8 * length u) m) (ap (read_map k total) all)
          ∙ ap (λ (n : ℕ). map_left n m (read_map k total (b ++ more))) size
          ∙ map_left-goes-on more (length b) m (read_map k total b) (read_map k total (b ++ more)) (read_map-goes-on more k total b)
          (not-19 (length b) (read_map k total b) other)

  -- of the bytes whose bits a done reading used none can be left away
  pub read-cut : (map_read g s total m).answer.number ≡ 0 → (i : ℕ) → 8 * i < (map_read g s total m).answer.count
      → map_read g (take i s) total m ≡ refused 19 m
  read-cut =
      map_read-by g s total m
      (λ o. o.answer.number ≡ 0 → (i : ℕ) → 8 * i < o.answer.count → map_read g (take i s) total m ≡ refused 19 m)
      (λ h z. absurd (omega arith)) (λ h l z. absurd (omega arith)) (λ ok u z. absurd (omega arith))
      (λ ok f z. absurd (omega arith)) (λ ok xs r f h z. absurd (omega arith))
      (λ ok xs r f h z i part. cut ok xs r f i part)
    where
      cut : MapReadable g m → (xs r : List ℕ) → MapBegins g s xs r → (i : ℕ) → 8 * i < 8 * length s - length r
          → map_read g (take i s) total m ≡ refused 19 m
      cut ok xs r f i part =
          let k = position_bits g in
          let n = map_groups k in
          let shorter : 8 * i < length (msb_bits_of s) - length r = rw (length-msb_bits_of s) part in
          map_read-refused g (take i s) total m ok 19
          (rw (msb_bits_of-take i s)
          (groups-cut k n (msb_bits_of s) (below-msb_bits_of s) xs r (begins-read k n xs (msb_bits_of s) r f) (8 * i) shorter))

  -- spare bits, and all later ones: two byte strings alike in the bits that a done reading used
  pub read_alike : (t : List ℕ) → (map_read g s total m).answer.number ≡ 0
      → let n = (map_read g s total m).answer.count in
      take n (msb_bits_of t) ≡ take n (msb_bits_of s) → map_read g t total m ≡ map_read g s total m
  read_alike t =
      map_read-by g s total m
      (λ o. o.answer.number ≡ 0 → take o.answer.count (msb_bits_of t) ≡ take o.answer.count (msb_bits_of s)
      → map_read g t total m ≡ o)
      (λ h z. absurd (omega arith)) (λ h l z. absurd (omega arith)) (λ ok u z. absurd (omega arith))
      (λ ok f z. absurd (omega arith)) (λ ok xs r f h z. absurd (omega arith))
      (λ ok xs r f h z same. alike ok xs r f h same)
    where
      alike : MapReadable g m → (xs r : List ℕ) (f : MapBegins g s xs r) → sum xs ≡ total
          → take (8 * length s - length r) (msb_bits_of t) ≡ take (8 * length s - length r) (msb_bits_of s)
          → map_read g t total m ≡ wrote (8 * length s - length r) (pixel_bytes xs) m
      alike ok xs r f h same =
          let k = position_bits g in
          let n = 8 * length s - length r in
          let rest = drop (8 * length s - length r) (msb_bits_of t) in
          let bits : length (msb_bits_of s) ≡ length f.front + length r = rw f.bits (length-append f.front r) in
          let used : length f.front ≡ 8 * length s - length r = omega (arith, length-msb_bits_of s) in
          let front : take n (msb_bits_of t) ≡ f.front = same ∙ rw f.bits (take_at f.front r n used) in
          let all : msb_bits_of t ≡ f.front ++ rest = sym (take-append-drop n (msb_bits_of t)) ∙ ap (◌++ rest) front in
          let size : length (msb_bits_of t) ≡ length f.front + length rest = ap length all ∙ length-append f.front rest in
          let begins : MapBegins g t xs rest = record { front = f.front; codes = f.codes; bits = all } in
          let count : 8 * length t - length rest ≡ n = omega (arith, length-msb_bits_of t) in
          map_read-done g t total m ok xs rest (begins-read k (map_groups k) xs (msb_bits_of t) rest begins) h
          ∙ ap (λ (c : ℕ). wrote c (pixel_bytes xs) m) count
