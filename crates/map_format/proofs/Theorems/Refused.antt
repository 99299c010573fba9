-- When each number is given: of groups by the grammar of their bits, and of the two calls. Assumes nothing.
use Rattle.std.specs.Prelude.{ℕ, ◌+◌, ◌-◌, ◌*◌, ◌^◌, ◌≤◌, ◌<◌, ◌≡◌, refl, ◌⊎◌, ◌↔◌, List, [], length, eqb}
use Rattle.std.proofs.Common.{arith, sym, ap, ◌∙◌, subst, inl, inr, append-nil, length-append}
use Rattle.answer.specs.declared.Answer.{Answer}
use Rattle.answer.specs.Outcome.{Outcome, wrote}
use Rattle.bitstream.specs.Bits.{Below}
use Rattle.bitstream.specs.Msb.{msb_bits_of}
use Rattle.bitstream.specs.Msb.Laws.{length-msb_bits_of, below-msb_bits_of}
use Rattle.row_format.specs.Row.{pixel_bytes}
use Rattle.row_format.specs.Lists.Laws.{by-test}
use Rattle.map_format.specs.Reading.{stops, got, sum, read_groups}
use Rattle.map_format.specs.Reading.Laws.{got-value, got-rest}
use Rattle.map_format.specs.Writing.{groups_bits}
use Rattle.map_format.specs.Writing.Laws.{below-groups_bits}
use Rattle.map_format.specs.Calls.{position_bits, map_read, map_written}
use Rattle.map_format.specs.Grammar.{GroupsCode, Begins, Fault20, Unfinished}
use Rattle.map_format.specs.Grammar.Counts.{groups-length, groups-below, sum-most}
use Rattle.map_format.proofs.Grammar.Read.{begins-read, fault20-refused}
use Rattle.map_format.proofs.Grammar.Stands.{read-begins, refused-number}
use Rattle.map_format.specs.Verdict.{GroupSize, MapReadable, MapBegins, MapFault, MapUnfinished, ReadVerdict, other-size, no_room_lem}
use Rattle.map_format.specs.Verdict.{bits-end, faulty, other-total, done, WrittenVerdict, unwritable, bytes-exceed, written}
use Rattle.map_format.proofs.Verdict.Laws.{got-not-stops, stops_same, groups-by, unfinished-refused, map_read-other-size}
use Rattle.map_format.proofs.Verdict.Laws.{map_read-no-room, map_read-refused, map_read-other-total, map_read-done, map_read-by}
use Rattle.map_format.proofs.Verdict.Laws.{map_written-unwritable, map_written-no-room, map_written-done, map_written-by}
use Rattle.map_format.proofs.Theorems.Groups.{read_groups-own}

-- ---- groups, from bits
module _ (k n : ℕ) (b : List ℕ) (low : Below 2 b) where
  -- read exactly where the bits begin with those of n groups
  pub groups-got : (xs r : List ℕ) → (read_groups k n b ≡ got xs r) ↔ Begins k n xs b r
  groups-got xs r = (read-begins k n b low xs r, begins-read k n xs b r)

  fault-of : (e : ℕ) → e ≡ 20 → (e ≡ 19) ⊎ ((e ≡ 20) × Fault20 k n b) → Fault20 k n b
  fault-of e h (inl z) = absurd (omega arith)
  fault-of e h (inr f) = f.1

  pub groups-20 : (read_groups k n b ≡ stops 20) ↔ Fault20 k n b
  groups-20 = ((λ h. fault-of 20 refl (refused-number k n b low 20 h)), fault20-refused k n b)

  pub groups-19 : (read_groups k n b ≡ stops 19) ↔ Unfinished k n b
  groups-19 = (
    groups-by k n b low (λ x. x ≡ stops 19 → Unfinished k n b) (λ xs r f h. absurd (got-not-stops refl h))
        (λ f h. let two : 20 ≡ 19 = stops_same refl h in absurd (omega arith)) (λ u h. u),
    unfinished-refused k n b low,
  )

-- what bits begin with is one thing alone
pub groups-one : (k n : ℕ) (b xs ys r t : List ℕ) → Begins k n xs b r → Begins k n ys b t → (xs ≡ ys) × (r ≡ t)
groups-one k n b xs ys r t f h =
    let same = sym (begins-read k n xs b r f) ∙ begins-read k n ys b t h in
    (got-value same, got-rest same)

-- what is written is of the grammar
pub groups-written : (k n : ℕ) (xs : List ℕ) → length xs ≡ n * 2 ^ k → Below 65536 xs → GroupsCode k n xs (groups_bits k n xs)
groups-written k n xs size low =
    let b = groups_bits k n xs in
    let read : read_groups k n b ≡ got xs [] = rw (append-nil b) at (read_groups-own k n xs [] size low) in
    let f = read-begins k n b (below-groups_bits k n xs) xs [] read in
    subst (GroupsCode k n xs) (sym (f.bits ∙ append-nil f.front)) f.codes

-- ---- the call that reads
module _ (g : ℕ) (s : List ℕ) (total : ℕ) (m : List ℕ) where
  abbrev number : ℕ
  number = (map_read g s total m).answer.number

  abbrev answered : Outcome Answer → ℕ
  answered o = o.answer.number

  verdict-given : ReadVerdict g s total m number
  verdict-given =
      map_read-by g s total m (λ o. ReadVerdict g s total m o.answer.number) other-size no_room_lem bits-end faulty other-total done

  given-verdict : {e : ℕ} → ReadVerdict g s total m e → number ≡ e
  given-verdict (other-size h) = ap answered (map_read-other-size g s total m h)
  given-verdict (no_room_lem size h) = ap answered (map_read-no-room g s total m size h)
  given-verdict (bits-end ok u) =
      ap answered (map_read-refused g s total m ok 19 (unfinished-refused _ _ (msb_bits_of s) (below-msb_bits_of s) u))
  given-verdict (faulty ok f) = ap answered (map_read-refused g s total m ok 20 (fault20-refused _ _ (msb_bits_of s) f))
  given-verdict (other-total ok xs r f h) =
      ap answered (map_read-other-total g s total m ok xs r (begins-read _ _ xs (msb_bits_of s) r f) h)
  given-verdict (done ok xs r f h) =
      ap answered (map_read-done g s total m ok xs r (begins-read _ _ xs (msb_bits_of s) r f) h)

  -- the whole outcome of a done reading, by the grammar: the map's own bits are counted, and its counts are left
  pub read_left : MapReadable g m → (xs r : List ℕ) (f : MapBegins g s xs r) → sum xs ≡ total
      → map_read g s total m ≡ wrote (length f.front) (pixel_bytes xs) m
  read_left ok xs r f h =
      let all : 8 * length s ≡ length f.front + length r =
      sym (length-msb_bits_of s) ∙ ap length f.bits ∙ length-append f.front r in
      let used : 8 * length s - length r ≡ length f.front = omega (arith, all) in
      map_read-done g s total m ok xs r (begins-read _ _ xs (msb_bits_of s) r f) h
      ∙ ap (λ (n : ℕ). wrote n (pixel_bytes xs) m) used

  -- each number exactly in its case
  pub read-verdict : (e : ℕ) → (number ≡ e) ↔ ReadVerdict g s total m e
  read-verdict e = ((λ h. subst (ReadVerdict g s total m) h verdict-given), given-verdict)

  -- "14 another group size"
  pub read-14 : (number ≡ 14) ↔ (GroupSize g → ⊥)
  read-14 = (
    map_read-by g s total m (λ o. answered o ≡ 14 → (GroupSize g → ⊥))
        (λ h z. h) (λ h l z. absurd (omega arith)) (λ ok u z. absurd (omega arith))
        (λ ok f z. absurd (omega arith)) (λ ok xs r f h z. absurd (omega arith)) (λ ok xs r f h z. absurd (omega arith)),
    λ h. given-verdict (other-size h),
  )

  -- "then 5"
  pub read-5 : (number ≡ 5) ↔ (GroupSize g × (length m < 32768))
  read-5 = (
    map_read-by g s total m (λ o. answered o ≡ 5 → (GroupSize g × (length m < 32768)))
        (λ h z. absurd (omega arith)) (λ h l z. (h, l)) (λ ok u z. absurd (omega arith))
        (λ ok f z. absurd (omega arith)) (λ ok xs r f h z. absurd (omega arith)) (λ ok xs r f h z. absurd (omega arith)),
    λ h. given-verdict (no_room_lem h.0 h.1),
  )

  -- "19 bits end"
  pub read-19 : (number ≡ 19) ↔ (MapReadable g m × MapUnfinished g s)
  read-19 = (
    map_read-by g s total m (λ o. answered o ≡ 19 → (MapReadable g m × MapUnfinished g s))
        (λ h z. absurd (omega arith)) (λ h l z. absurd (omega arith)) (λ ok u z. (ok, u))
        (λ ok f z. absurd (omega arith)) (λ ok xs r f h z. absurd (omega arith)) (λ ok xs r f h z. absurd (omega arith)),
    λ h. given-verdict (bits-end h.0 h.1),
  )

  -- "20 a 16-bit pixel not above 17, or a code 000 group of fewer than three, judged after its last pixel"; "earliest bit first"
  pub read-20 : (number ≡ 20) ↔ (MapReadable g m × MapFault g s)
  read-20 = (
    map_read-by g s total m (λ o. answered o ≡ 20 → (MapReadable g m × MapFault g s))
        (λ h z. absurd (omega arith)) (λ h l z. absurd (omega arith)) (λ ok u z. absurd (omega arith))
        (λ ok f z. (ok, f)) (λ ok xs r f h z. absurd (omega arith)) (λ ok xs r f h z. absurd (omega arith)),
    λ h. given-verdict (faulty h.0 h.1),
  )

  -- "21 total differs", "21 last"
  pub read-21 : (number ≡ 21)
      ↔ ((ok : MapReadable g m) × (xs : List ℕ) × (r : List ℕ) × MapBegins g s xs r × (sum xs ≡ total → ⊥))
  read-21 = (
    map_read-by g s total m
        (λ o. answered o ≡ 21 → ((ok : MapReadable g m) × (xs : List ℕ) × (r : List ℕ) × MapBegins g s xs r × (sum xs ≡ total → ⊥)))
        (λ h z. absurd (omega arith)) (λ h l z. absurd (omega arith)) (λ ok u z. absurd (omega arith))
        (λ ok f z. absurd (omega arith)) (λ ok xs r f h z. (ok, xs, r, f, h)) (λ ok xs r f h z. absurd (omega arith)),
    λ h. given-verdict (other-total h.0 h.1 h.2 h.3 h.4),
  )

  -- done
  pub read-0 : (number ≡ 0)
      ↔ ((ok : MapReadable g m) × (xs : List ℕ) × (r : List ℕ) × MapBegins g s xs r × (sum xs ≡ total))
  read-0 = (
    map_read-by g s total m
        (λ o. answered o ≡ 0 → ((ok : MapReadable g m) × (xs : List ℕ) × (r : List ℕ) × MapBegins g s xs r × (sum xs ≡ total)))
        (λ h z. absurd (omega arith)) (λ h l z. absurd (omega arith)) (λ ok u z. absurd (omega arith))
        (λ ok f z. absurd (omega arith)) (λ ok xs r f h z. absurd (omega arith)) (λ ok xs r f h z. (ok, xs, r, f, h)),
    λ h. given-verdict (done h.0 h.1 h.2 h.3 h.4),
  )

-- a group has as many pixels as positions
pub group-size : (g : ℕ) → GroupSize g → 2 ^ position_bits g ≡ g
group-size g (inl e) = rw e
group-size g (inr e) = rw e

-- ---- the call that writes
module _ (g : ℕ) (s m : List ℕ) where
  abbrev number-written : ℕ
  number-written = (map_written g s m).answer.number

  verdict-written : WrittenVerdict g s m number-written
  verdict-written = map_written-by g s m (λ o. WrittenVerdict g s m o.answer.number) unwritable bytes-exceed written

  written-given : {e : ℕ} → WrittenVerdict g s m e → number-written ≡ e
  written-given (unwritable h) = ap (λ (o : Outcome Answer). o.answer.number) (map_written-unwritable g s m h)
  written-given (bytes-exceed ok h) = ap (λ (o : Outcome Answer). o.answer.number) (map_written-no-room g s m ok h)
  written-given (written ok h) = ap (λ (o : Outcome Answer). o.answer.number) (map_written-done g s m ok h)

  -- each number exactly in its case
  pub written-verdict : (e : ℕ) → (number-written ≡ e) ↔ WrittenVerdict g s m e
  written-verdict e = ((λ h. subst (WrittenVerdict g s m) h verdict-written), written-given)

-- ---- the sum that is compared with the total: it is the true one, and no width cuts it
module _ (g : ℕ) (s xs r : List ℕ) (f : MapBegins g s xs r) where
  pub map-counts : length xs ≡ 16384
  map-counts = groups-length f.codes ∙ by-test (eqb g 4) (λ e. rw e) (λ e. rw e)

  pub map_below : Below 65536 xs
  map_below = groups-below f.codes

  pub map-sum : sum xs ≤ 16384 * 65535
  map-sum = omega (arith, sum-most xs map_below, map-counts)

  pub map-sum-32 : sum xs < 2 ^ 32
  map-sum-32 = omega (arith, map-sum)
