-- A group's place among the counts, the bits of a map, the turns of putting it, and its call's ways out. Assumes nothing.
use Prim.Native.Nat.{ℕ, suc, ◌+◌, ◌-◌, ◌*◌, ◌/◌, ◌^◌, ◌≤◌, ◌<◌}
use native.Mathlib.Nat.{mul_assoc, mul_comm, mul_left_comm, mul-add, mul-suc, mul-le-mul_left}
use native.Mathlib.Numerals.{add-one, unary_clauses}
use native.Mathlib.Omega.{arith}
use mathlib.Core.Path.{◌≡◌, refl, sym, ap, ◌∙◌}
use mathlib.Core.List.{List, [], ◌++◌}
use lib.ListN.{length, take, drop, length-drop}
use lib.Seq.{length-take-le, drop-drop}
use lib.Pow.{pow_mono}
use borrow.Author.Tests.{lt-ltb, le-ltb, eq-eqb, ne_eqb}
use Rattle.answer.specs.declared.Answer.{Answer}
use Rattle.answer.specs.Outcome.{Outcome, answer_of, outcome, wrote_or_full}
use Rattle.bitstream.specs.Bits.{halves_of, words_for, pad, Below}
use Rattle.bitstream.specs.Msb.{msb_digits, msb_bits_of, bytes_for}
use Rattle.bitstream.specs.Msb.Laws.{front_bytes, length-msb_bytes_of}
use Rattle.map_format.specs.Writing.{group_bits, groups_bits}
use Rattle.map_format.specs.Calls.{map_groups, map_bits, map_bytes, counts_number, map_written}
use Rattle.map_format.specs.Calls.Laws.{map-pixels}
use Rattle.map_format.proofs.Theorems.{map-bits-most}
use Rattle.bitstream.specs.MsbWriter.{msb_held, MsbGood, MsbClosable, MsbFinished}
use Rattle.mat_map.specs.Putting.{Room, Puts, Putting}
use Rattle.mat_map.specs.Putting.Laws.{putting-none, putting-room, putting-more, putting-all}
use Rattle.mat_map.specs.Size.{bits_or_none}
use Rattle.mat_map.specs.Size.Laws.{size-refused, size-passes, size-bits}
use Rattle.mat_map.specs.Written.{group_at, MapPut}
use Rattle.bitstream.specs.declared.msb_writer.MsbWriter.{MsbWriter}
use Rattle.mat_map.proofs.Laws.{halves-take, halves-drop}

-- ---- group i, as the part of the counts that is lent
module _ (k i : ℕ) {p : ℕ} (e : p ≡ 2 ^ k) (few : k ≤ 4) (h : i < map_groups k) where
  part-pixels : p * i + p ≤ 16384
  part-pixels =
      let inside : 2 ^ k * suc i ≤ 2 ^ k * map_groups k = mul-le-mul_left (2 ^ k) h in
      rw e (omega (arith, mul-suc (2 ^ k) i, inside, mul_comm (2 ^ k) (map_groups k), map-pixels k (omega arith)))

  pub part_bytes : 2 * p * i + 2 * p ≤ 32768
  part_bytes = omega (arith, mul_assoc 2 p i, part-pixels)

  module _ (s : List ℕ) (size : length s / 2 ≡ 16384) where
    pub part-there : 2 * p * i + 2 * p ≤ length s
    part-there = omega (arith, part_bytes)

    pub part-counts : halves_of (take (2 * p * i + 2 * p - 2 * p * i) (drop (2 * p * i) s)) ≡ group_at k i (halves_of s)
    part-counts =
        let count : 2 * p * i + 2 * p - 2 * p * i ≡ 2 * p = omega arith in
        let place : 2 * p * i ≡ 2 * (p * i) = mul_assoc 2 p i in
        let before : 2 * (p * i) ≤ length s = omega (arith, part-there, place) in
        let rest : 2 * p ≤ length (drop (2 * (p * i)) s) = omega (arith, length-drop (2 * (p * i)) s, part-there, place) in
        ap (λ (n : ℕ). halves_of (take n (drop (2 * p * i) s))) count
        ∙ ap (λ (a : ℕ). halves_of (take (2 * p) (drop a s))) place
        ∙ halves-take p (drop (2 * (p * i)) s) rest
        ∙ ap (take p) (halves-drop (p * i) s before)
        ∙ ap (λ (q : ℕ). take q (drop (q * i) (halves_of s))) e

    pub part-size : length (take (2 * p * i + 2 * p - 2 * p * i) (drop (2 * p * i) s)) / 2 ≡ 2 ^ k
    part-size =
        let count : 2 * p * i + 2 * p - 2 * p * i ≡ 2 * p = omega arith in
        let long : length (take (2 * p) (drop (2 * p * i) s)) ≡ 2 * p =
        length-take-le (2 * p) (drop (2 * p * i) s) (omega (arith, length-drop (2 * p * i) s, part-there)) in
        ap (λ (n : ℕ). length (take n (drop (2 * p * i) s)) / 2) count ∙ omega (arith, long, e)

-- ---- a map's bits
module _ (k : ℕ) where
  -- what is left after i of n groups, and after one more
  groups_bits-more : (n i : ℕ) (xs : List ℕ) → i < n
      → groups_bits k (n - i) (drop (2 ^ k * i) xs)
      ≡ group_bits k (take (2 ^ k) (drop (2 ^ k * i) xs)) ++ groups_bits k (n - (i + 1)) (drop (2 ^ k * (i + 1)) xs)
  unfolding groups_bits
  groups_bits-more n i xs h =
      let one : n - i ≡ suc (n - (i + 1)) = omega arith in
      let next : 2 ^ k * i + 2 ^ k ≡ 2 ^ k * (i + 1) = sym (mul-suc (2 ^ k) i) ∙ ap (2 ^ k *◌) (sym (add-one i)) in
      rw one
      (ap (λ (l : List ℕ). group_bits k (take (2 ^ k) (drop (2 ^ k * i) xs)) ++ groups_bits k (n - (i + 1)) l)
      (drop-drop (2 ^ k) (2 ^ k * i) xs ∙ ap (λ (a : ℕ). drop a xs) next))

  groups_bits-end : (n i : ℕ) (xs : List ℕ) → n ≤ i → groups_bits k (n - i) (drop (2 ^ k * i) xs) ≡ []
  unfolding groups_bits
  groups_bits-end n i xs h = let none : n - i ≡ 0 = omega arith in rw none

map_bits-start : (k : ℕ) (xs : List ℕ) → map_bits k xs ≡ groups_bits k (map_groups k - 0) (drop (2 ^ k * 0) xs)
unfolding map_bits
map_bits-start k xs = simp unary_clauses refl

-- at most 4096 groups of 3 + 22 * 4 bits: 3 for each group, and 22 for each pixel
length-map_bits : {k : ℕ} (xs : List ℕ) → 2 ≤ k → k ≤ 4 → length (map_bits k xs) ≤ 372736
length-map_bits {k} xs some few =
    let n : ℕ = map_groups k in
    let most : n ≤ 4096 = pow_mono {i = 14 - k} {j = 12} (omega arith) in
    let all : n * (22 * 2 ^ k) ≡ 22 * (n * 2 ^ k) = mul_left_comm n 22 (2 ^ k) in
    omega (arith, map-bits-most k xs, mul-add n 3 (22 * 2 ^ k), all, map-pixels k (omega arith), most)

-- ---- the turns: after i groups
abbrev left : ℕ → List ℕ → ℕ → List ℕ
left k xs i = groups_bits k (map_groups k - i) (drop (2 ^ k * i) xs)

abbrev pub PuttingMap : ℕ → List ℕ → List ℕ → MsbWriter → List ℕ → MsbWriter → ℕ → Type 0
PuttingMap k xs o w o' w' i = Putting o w (map_bits k xs) o' w' (left k xs i)

fresh-good : {w : MsbWriter} → w ≡ record { words = 0; count = 0; acc = 0 } → MsbGood w
fresh-good e = rw e (record { few = omega arith; low = omega arith })

fresh-held : (o : List ℕ) {w : MsbWriter} → w ≡ record { words = 0; count = 0; acc = 0 } → msb_held o w ≡ []
unfolding msb_bits_of msb_digits
fresh-held o e = rw e

module _ {k : ℕ} (xs o : List ℕ) {w : MsbWriter}
    (some : 2 ≤ k) (few : k ≤ 4) (size : length o ≡ 46592) (e : w ≡ record { words = 0; count = 0; acc = 0 }) where
  fits : 32 * w.words + (w.count + length (map_bits k xs)) ≤ 8 * length o
  fits = rw e (omega (arith, length-map_bits xs some few, size))

  room : Room o w (map_bits k xs)
  room = record { good = fresh-good e; fits = fits }

  pub map-none : PuttingMap k xs o w o w 0
  map-none = rw (← map_bits-start k xs) (putting-none o w (map_bits k xs) (fresh-good e))

  module _ {o' : List ℕ} {w' : MsbWriter} {i : ℕ} (s : PuttingMap k xs o w o' w' i) where
    -- the next group
    module _ (h : i < map_groups k) where
      next : left k xs i ≡ group_bits k (group_at k i xs) ++ left k xs (i + 1)
      next = groups_bits-more k (map_groups k) i xs h

      pub map-room : Room o' w' (group_bits k (group_at k i xs))
      map-room = putting-room (group_bits k (group_at k i xs)) (left k xs (i + 1)) next s room

      pub map_more : {o'' : List ℕ} {w'' : MsbWriter} → Puts o' w' (group_bits k (group_at k i xs)) o'' w'' → length o'' ≡ length o'
          → PuttingMap k xs o w o'' w'' (i + 1)
      map_more p same = putting-more (group_bits k (group_at k i xs)) (left k xs (i + 1)) next s p same

    -- every group is put
    module _ (g : map_groups k ≤ i) where
      all : Puts o w (map_bits k xs) o' w'
      all = putting-all (groups_bits-end k (map_groups k) i xs g) s

      pub map-bits : 32 * w'.words + w'.count ≡ length (map_bits k xs)
      map-bits = all.size ∙ rw e (omega arith)

      pub map-few : 32 * w'.words + w'.count ≤ 372736
      map-few = omega (arith, map-bits, length-map_bits xs some few)

      pub map-closable : MsbClosable o' w'
      map-closable = record { good = s.good; fits = omega (arith, map-few, s.kept, size) }

      pub map-all : {o'' : List ℕ} → MsbFinished o' w' o'' → length o'' ≡ length o' → Below 256 o''
          → MapPut k xs o'' (32 * w'.words + w'.count)
      unfolding map_bytes
      map-all {o''} f same bytes =
          let n : ℕ = 32 * w'.words + w'.count in
          let held : msb_held o' w' ≡ map_bits k xs = all.bits ∙ ap (◌++ map_bits k xs) (fresh-held o e) in
          record {
            bits = map-bits;
            front =
                front_bytes (words_for n) (bytes_for n) o'' (map_bits k xs) bytes (omega arith)
                (omega (arith, map-few, same, s.kept, size)) (f.front ∙ ap (pad (32 * words_for n)) held)
                ∙ rw map-bits;
          }

-- ---- the ways out where the counts are a map's: m was the memory lent
module _ {k : ℕ} (xs m : List ℕ) (some : 2 ≤ k) (few : k ≤ 4) {own : List ℕ} {n : ℕ} (put : MapPut k xs own n) where
  pub sized-few : n ≤ 372736
  sized-few = omega (arith, put.bits, length-map_bits xs some few)

  sized-bytes : length (map_bytes k xs) ≡ bytes_for n
  unfolding map_bytes
  sized-bytes = length-msb_bytes_of (bytes_for (length (map_bits k xs))) (map_bits k xs) ∙ ap bytes_for (sym put.bits)

  -- 5
  pub sized-full : length m < bytes_for n → outcome (answer_of 5 0) m ≡ wrote_or_full (length (map_bytes k xs)) (map_bytes k xs) m
  sized-full h = rw (sized-bytes, lt-ltb (length m) (bytes_for n) h)

  -- done
  pub sized-done : {o : List ℕ} → bytes_for n ≤ length m → o ≡ take (bytes_for n) own ++ drop (bytes_for n) m
      → outcome (answer_of 0 (bytes_for n)) o ≡ wrote_or_full (length (map_bytes k xs)) (map_bytes k xs) m
  sized-done h e = rw (sized-bytes, le-ltb (length m) (bytes_for n) h, e, put.front)

-- ---- and those before
module _ (g : ℕ) (s m : List ℕ) where
  -- 14 for the size
  pub written-size : bits_or_none g ≡ 0 → outcome (answer_of 14 0) m ≡ map_written g s m
  unfolding map_written
  written-size e = rw (size-refused g e)

  module _ (some : bits_or_none g ≡ 0 → ⊥) where
    -- 14 for the counts
    pub written-counts : (length s / 2 ≡ 16384 → ⊥) → outcome (answer_of 14 0) m ≡ map_written g s m
    unfolding map_written counts_number
    written-counts h = rw (size-passes g some, ne_eqb (length s / 2) 16384 h)

    -- neither
    pub written-sized : {k : ℕ} → k ≡ bits_or_none g → length s / 2 ≡ 16384 → {o : Outcome Answer}
        → o ≡ wrote_or_full (length (map_bytes k (halves_of s))) (map_bytes k (halves_of s)) m → o ≡ map_written g s m
    unfolding map_written counts_number
    written-sized is e h = rw (size-passes g some, eq-eqb (length s / 2) 16384 e, ← size-bits g some, ← is) h
