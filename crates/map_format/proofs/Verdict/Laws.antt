-- The cases of a reading and of the two calls: to show something of what one comes to, show it of each case. Assumes nothing.
use Rattle.std.specs.Prelude.{ℕ, ◌-◌, ◌*◌, ◌/◌, ◌≤◌, ◌<◌, ◌≡◌, refl, true, false, ◌||◌, ◌⊎◌, ltb, eqb}
use Rattle.std.proofs.Common.{arith, sym, ap, ◌∙◌, subst, inl, inr}
use mathlib.Core.List.{List}
use Rattle.std.proofs.Math.ListN.{length}
use borrow.Author.Tests.{ltb-true, ltb-false, lt-ltb, le-ltb, eqb-true, eqb-false, eq-eqb, ne_eqb}
use Rattle.answer.specs.declared.Answer.{Answer}
use Rattle.answer.specs.Outcome.{Outcome, refused, wrote, wrote_or_full}
use Rattle.bitstream.specs.Bits.{Below, halves_of}
use Rattle.bitstream.specs.Msb.{msb_bits_of}
use Rattle.bitstream.specs.Msb.Laws.{below-msb_bits_of}
use Rattle.row_format.specs.Lists.Laws.{by-test}
use Rattle.row_format.specs.Row.{pixel_bytes}
use Rattle.map_format.specs.Reading.{Parse, stops, got, ◌then◌, sum, read_groups}
use Rattle.map_format.specs.Reading.Laws.{stops-got}
use Rattle.map_format.specs.Calls.{position_bits, size_number, map_groups, totalled, read_map, map_left, map_read, map_bytes, counts_number}
use Rattle.map_format.specs.Calls.{map_written}
use Rattle.map_format.specs.Grammar.{Begins, Fault20, Unfinished}
use Rattle.map_format.proofs.Grammar.Read.{begins-read, fault20-refused}
use Rattle.map_format.proofs.Grammar.Stands.{read-begins, refused-number}
use Rattle.map_format.specs.Verdict.{GroupSize, MapReadable, MapBegins, MapFault, MapUnfinished, MapWritable}

-- ---- groups
pub got-not-stops : {A : Type 0} {x : Parse A} {v : A} {r : List ℕ} {e : ℕ} → x ≡ got v r → x ≡ stops e → ⊥
got-not-stops g s = stops-got (sym s ∙ g)

pub stops_same : {A : Type 0} {x : Parse A} {d e : ℕ} → x ≡ stops d → x ≡ stops e → d ≡ e
stops_same a b = cc

module _ (k n : ℕ) (b : List ℕ) (low : Below 2 b) where
  module _ (T : Parse (List ℕ) → Type 0) (some : (xs r : List ℕ) → Begins k n xs b r → T (got xs r))
      (fault : Fault20 k n b → T (stops 20)) (end : Unfinished k n b → T (stops 19)) where
    stops-by : (e : ℕ) → read_groups k n b ≡ stops e → (e ≡ 19) ⊎ ((e ≡ 20) × Fault20 k n b) → T (stops e)
    stops-by e h (inl z) =
        let same : read_groups k n b ≡ stops 19 = h ∙ ap stops z in
        subst (λ (d : ℕ). T (stops d)) (sym z)
        (end (record {
          no-groups = λ xs r f. got-not-stops (begins-read k n xs b r f) same;
          no-fault = λ f. let two : 19 ≡ 20 = stops_same same (fault20-refused k n b f) in absurd (omega arith);
        }))
    stops-by e h (inr f) = subst (λ (d : ℕ). T (stops d)) (sym f.0) (fault f.1)

    parse-by : (x : Parse (List ℕ)) → read_groups k n b ≡ x → T x
    parse-by (got xs r) h = some xs r (read-begins k n b low xs r h)
    parse-by (stops e) h = stops-by e h (refused-number k n b low e h)

    pub groups-by : T (read_groups k n b)
    groups-by = parse-by (read_groups k n b) refl

  pub unfinished-refused : Unfinished k n b → read_groups k n b ≡ stops 19
  unfinished-refused u =
      groups-by (λ x. x ≡ stops 19) (λ xs r f. absurd (u.no-groups xs r f)) (λ f. absurd (u.no-fault f)) (λ v. refl)

-- ---- sizes and room
size-test : (g : ℕ) → GroupSize g → (eqb g 4 || eqb g 16) ≡ true
size-test g (inl e) = rw e
size-test g (inr e) = rw e

pub size_number-none : (g : ℕ) → GroupSize g → size_number g ≡ 0
unfolding size_number
size_number-none g size = rw (size-test g size)

pub size_number-other : (g : ℕ) → (GroupSize g → ⊥) → size_number g ≡ 14
unfolding size_number
size_number-other g other = rw (ne_eqb g 4 (λ e. other (inl e)), ne_eqb g 16 (λ e. other (inr e)))

by_size : (g : ℕ) {T : Type 0} → (GroupSize g → T) → ((GroupSize g → ⊥) → T) → T
by_size g this other =
    by-test (eqb g 4) (λ e. this (inl (eqb-true g 4 e)))
    (λ d. by-test (eqb g 16) (λ e. this (inr (eqb-true g 16 e)))
    (λ e. other (λ size. neither d e size)))
  where
    neither : eqb g 4 ≡ false → eqb g 16 ≡ false → GroupSize g → ⊥
    neither d e (inl h) = eqb-false g 4 d h
    neither d e (inr h) = eqb-false g 16 e h

pub size_number-zero : (g : ℕ) → size_number g ≡ 0 → GroupSize g
size_number-zero g e = by_size g (λ size. size) (λ other. absurd (omega (arith, size_number-other g other)))

-- ---- reading
module _ (g : ℕ) (s : List ℕ) (total : ℕ) (m : List ℕ) where
  abbrev groups : Parse (List ℕ)
  groups = read_groups (position_bits g) (map_groups (position_bits g)) (msb_bits_of s)

  pub map_read-other-size : (GroupSize g → ⊥) → map_read g s total m ≡ refused 14 m
  unfolding map_read
  map_read-other-size other = rw (size_number-other g other)

  pub map_read-no-room : GroupSize g → length m < 32768 → map_read g s total m ≡ refused 5 m
  unfolding map_read
  map_read-no-room size full = rw (size_number-none g size, lt-ltb (length m) 32768 full)

  pub map_read-readable : MapReadable g m → map_read g s total m ≡ map_left (8 * length s) m (read_map (position_bits g) total (msb_bits_of s))
  unfolding map_read
  map_read-readable ok = rw (size_number-none g ok.size, le-ltb (length m) 32768 ok.room)

  pub map_read-refused : MapReadable g m → (e : ℕ) → groups ≡ stops e → map_read g s total m ≡ refused e m
  unfolding read_map
  map_read-refused ok e h = map_read-readable ok ∙ rw h

  pub map_read-other-total : MapReadable g m → (xs r : List ℕ) → groups ≡ got xs r → (sum xs ≡ total → ⊥)
      → map_read g s total m ≡ refused 21 m
  unfolding read_map
  map_read-other-total ok xs r h differs = map_read-readable ok ∙ rw (h, ne_eqb (sum xs) total differs)

  pub map_read-done : MapReadable g m → (xs r : List ℕ) → groups ≡ got xs r → sum xs ≡ total
      → map_read g s total m ≡ wrote (8 * length s - length r) (pixel_bytes xs) m
  unfolding read_map
  map_read-done ok xs r h same = map_read-readable ok ∙ rw (h, eq-eqb (sum xs) total same)

  module _ (T : Outcome Answer → Type 0) (size : (GroupSize g → ⊥) → T (refused 14 m))
      (room : GroupSize g → length m < 32768 → T (refused 5 m))
      (end : MapReadable g m → MapUnfinished g s → T (refused 19 m))
      (fault : MapReadable g m → MapFault g s → T (refused 20 m))
      (differs : MapReadable g m → (xs r : List ℕ) → MapBegins g s xs r → (sum xs ≡ total → ⊥) → T (refused 21 m))
      (done : MapReadable g m → (xs r : List ℕ) → MapBegins g s xs r → sum xs ≡ total
      → T (wrote (8 * length s - length r) (pixel_bytes xs) m)) where
    totalled-by : MapReadable g m → (xs r : List ℕ) → MapBegins g s xs r → T (map_left (8 * length s) m (totalled total xs r))
    totalled-by ok xs r f =
        by-test (eqb (sum xs) total) (λ e. rw e (done ok xs r f (eqb-true (sum xs) total e)))
        (λ e. rw e (differs ok xs r f (eqb-false (sum xs) total e)))

    readable-by : MapReadable g m → T (map_read g s total m)
    unfolding read_map
    readable-by ok =
        let k = position_bits g in
        rw (map_read-readable ok)
        (groups-by k (map_groups k) (msb_bits_of s) (below-msb_bits_of s) (λ x. T (map_left (8 * length s) m (x then totalled total)))
        (totalled-by ok) (fault ok) (end ok))

    pub map_read-by : T (map_read g s total m)
    map_read-by =
        by_size g
        (λ this. by-test (ltb (length m) 32768)
        (λ e. let full = ltb-true (length m) 32768 e in rw (map_read-no-room this full) (room this full))
        (λ e. readable-by (record { size = this; room = ltb-false (length m) 32768 e })))
        (λ other. rw (map_read-other-size other) (size other))

  -- a done reading had what it asks, and came to counts
  pub map_read-got : (map_read g s total m).answer.number ≡ 0
      → MapReadable g m × (xs : List ℕ) × (r : List ℕ) × (read_map (position_bits g) total (msb_bits_of s) ≡ got xs r)
  unfolding read_map
  map_read-got =
      map_read-by
      (λ o. o.answer.number ≡ 0
      → MapReadable g m × (xs : List ℕ) × (r : List ℕ) × (read_map (position_bits g) total (msb_bits_of s) ≡ got xs r))
      (λ h z. absurd (omega arith)) (λ h l z. absurd (omega arith)) (λ ok u z. absurd (omega arith))
      (λ ok f z. absurd (omega arith)) (λ ok xs r f h z. absurd (omega arith))
      (λ ok xs r f h z. (ok, xs, r, rw (begins-read _ _ xs (msb_bits_of s) r f, eq-eqb (sum xs) total h)))

-- ---- writing
module _ (g : ℕ) (s m : List ℕ) where
  abbrev written : List ℕ
  written = map_bytes (position_bits g) (halves_of s)

  by-counts : {T : Type 0} → (length s / 2 ≡ 16384 → T) → ((length s / 2 ≡ 16384 → ⊥) → T) → T
  by-counts this other =
      by-test (eqb (length s / 2) 16384) (λ e. this (eqb-true (length s / 2) 16384 e)) (λ e. other (eqb-false (length s / 2) 16384 e))

  pub map_written-writable : MapWritable g s → map_written g s m ≡ wrote_or_full (length written) written m
  unfolding map_written counts_number
  map_written-writable ok = rw (size_number-none g ok.size, eq-eqb (length s / 2) 16384 ok.counts)

  pub map_written-unwritable : (MapWritable g s → ⊥) → map_written g s m ≡ refused 14 m
  unfolding map_written counts_number
  map_written-unwritable other =
      by_size g
      (λ this. by-counts (λ e. absurd (other (record { size = this; counts = e })))
      (λ e. rw (size_number-none g this, ne_eqb (length s / 2) 16384 e)))
      (λ size. rw (size_number-other g size))

  pub map_written-no-room : MapWritable g s → length m < length written → map_written g s m ≡ refused 5 m
  map_written-no-room ok full = map_written-writable ok ∙ rw (lt-ltb (length m) (length written) full)

  pub map_written-done : MapWritable g s → length written ≤ length m → map_written g s m ≡ wrote (length written) written m
  map_written-done ok room = map_written-writable ok ∙ rw (le-ltb (length m) (length written) room)

  module _ (T : Outcome Answer → Type 0) (unwritable : (MapWritable g s → ⊥) → T (refused 14 m))
      (full : MapWritable g s → length m < length written → T (refused 5 m))
      (done : MapWritable g s → length written ≤ length m → T (wrote (length written) written m)) where
    pub map_written-by : T (map_written g s m)
    map_written-by =
        by_size g
        (λ this. by-counts (λ e. writable-by (record { size = this; counts = e }))
        (λ e. other-by (λ ok. e ok.counts)))
        (λ other. other-by (λ ok. other ok.size))
      where
        other-by : (MapWritable g s → ⊥) → T (map_written g s m)
        other-by other = rw (map_written-unwritable other) (unwritable other)

        writable-by : MapWritable g s → T (map_written g s m)
        writable-by ok =
            by-test (ltb (length m) (length written))
            (λ e. let less = ltb-true (length m) (length written) e in rw (map_written-no-room ok less) (full ok less))
            (λ e. let room = ltb-false (length m) (length written) e in rw (map_written-done ok room) (done ok room))

  -- a done writing had what it asks, and room
  pub map_written-got : (map_written g s m).answer.number ≡ 0 → MapWritable g s × (length (map_bytes (position_bits g) (halves_of s)) ≤ length m)
  map_written-got =
      map_written-by (λ o. o.answer.number ≡ 0 → MapWritable g s × (length written ≤ length m)) (λ h z. absurd (omega arith))
      (λ ok h z. absurd (omega arith)) (λ ok room z. (ok, room))
