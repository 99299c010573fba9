-- What a reading that is done says of writing: the counts are those of whole groups, writing them takes as many bits as were read,
-- and the same bits, exactly where no code 001 had its higher position first. Assumes nothing.
use Rattle.std.specs.Prelude.{ℕ, zero, suc, ◌+◌, ◌*◌, ◌^◌, ◌≤◌, ◌<◌, ◌≡◌, refl, Bool, ◌||◌, List, [], ◌++◌, length, take, drop, ltb}
use native.Mathlib.Nat.{mod-eq_of_lt}
use Rattle.std.proofs.Common.{arith, sym, subst, ◌∙◌, append_assoc, length-append, take_at, drop_at, ltb-true, ltb-false}
use Rattle.std.proofs.Math.Path.{ap}
use Rattle.std.proofs.Math.Bool.{false}
use Rattle.std.proofs.lemmas.List.{length-replicate}
use Rattle.bitstream.specs.Bits.{Below}
use Rattle.bitstream.specs.Bits.Laws.{below-nil, below-append}
use Rattle.bitstream.specs.Msb.{msb_digits, msb_num}
use Rattle.bitstream.specs.Msb.Laws.{length-msb_digits, msb_num-digits}
use Rattle.row_format.specs.Lists.Laws.{by-test, true-false, or-false-left, or-false-right}
use Rattle.map_format.specs.Reading.{Parse, got, ◌then◌, read_field, read_pixels, Code, zeros, one, two, direct, read_code, sum, photon}
use Rattle.map_format.specs.Reading.{dark, three_or_more, read_body, read_group, read_groups}
use Rattle.map_format.specs.Reading.Laws.{stops-got, got_same, then-got, read_field-got, below_rest, sum_zeros, sum-photon, below-sum}
use Rattle.map_format.specs.Reading.Laws.{length-photon, photon-comm}
use Rattle.map_format.specs.Writing.{pixels_bits, group_bits, groups_bits}
use Rattle.map_format.specs.Writing.Laws.{positions-photon, positions-photons, group_bits-zeros, group_bits-direct, group_bits-at}
use Rattle.map_format.specs.Writing.Laws.{group_bits-both}
use Rattle.map_format.specs.Choice.{code_bits, higher_first, swapped, any_swapped, Rewritten}
use Rattle.map_format.proofs.Theorems.Pixels.{PixelsRead, read_pixels-got, read_code-got}

-- ---- the same bits as were read
exact : {n : ℕ} {higher : Bool} {b xs r : List ℕ} (w p : List ℕ) → w ≡ p → b ≡ p ++ r → length xs ≡ n → Below 65536 xs
    → higher ≡ false → Rewritten n w higher b xs r
exact w p e whole size low none = record {
  bits = p;
  whole = whole;
  size = size;
  counts = low;
  long = ap length e;
  same = (λ h. none, λ h. e);
}

-- ---- groups of few photons
module _ (k : ℕ) where
  dark-size : length (dark k) ≡ 2 ^ k
  dark-size = length-replicate (2 ^ k) 0

  pub dark-sum : sum (dark k) ≡ 0
  dark-sum = sum_zeros (2 ^ k)

  one_size : (n : ℕ) → length (photon n (dark k)) ≡ 2 ^ k
  one_size n = length-photon n (dark k) ∙ dark-size

  pub one-sum : (n : ℕ) → n < 2 ^ k → sum (photon n (dark k)) ≡ 1
  one-sum n h = sum-photon n (dark k) (rw dark-size h) ∙ ap suc dark-sum

  two_size : (n m : ℕ) → length (photon m (photon n (dark k))) ≡ 2 ^ k
  two_size n m = length-photon m (photon n (dark k)) ∙ one_size n

  pub two-sum : (n m : ℕ) → n < 2 ^ k → m < 2 ^ k → sum (photon m (photon n (dark k))) ≡ 2
  two-sum n m h g = sum-photon m (photon n (dark k)) (rw (one_size n) g) ∙ ap suc (one-sum n h)

  -- the lower position first
  two-bits : (n m : ℕ) → n < 2 ^ k → m < 2 ^ k → n ≤ m
      → group_bits k (photon m (photon n (dark k))) ≡ code_bits two ++ (msb_digits k n ++ msb_digits k m)
  two-bits n m h g up =
      group_bits-both k (photon m (photon n (dark k))) n m (two-sum n m h g) (positions-photons 0 n m (2 ^ k) up g)

  -- ---- a code's body
  zeros-got : (s : List ℕ) → Rewritten (2 ^ k) (group_bits k (dark k)) false (code_bits zeros ++ s) (dark k) s
  zeros-got s =
      exact (group_bits k (dark k)) (code_bits zeros) (group_bits-zeros k (dark k) dark-sum) refl dark-size
      (below-sum 65536 (dark k) (rw dark-sum (omega arith))) refl

  one-got : (n : ℕ) (s t : List ℕ) → s ≡ msb_digits k n ++ t → n < 2 ^ k
      → let xs = photon n (dark k) in
      Rewritten (2 ^ k) (group_bits k xs) false (code_bits one ++ s) xs t
  one-got n s t bits h =
      let xs = photon n (dark k) in
      exact (group_bits k xs) (code_bits one ++ msb_digits k n)
      (group_bits-at k xs n (one-sum n h) (positions-photon 0 n (2 ^ k) h)) (ap (code_bits one ++◌) bits) (one_size n)
      (below-sum 65536 xs (rw (one-sum n h) (omega arith))) refl

  -- the positions as read
  higher-two : (n m : ℕ) (t : List ℕ) → n < 2 ^ k → m < 2 ^ k
      → higher_first k (got two (msb_digits k n ++ (msb_digits k m ++ t))) ≡ ltb m n
  higher-two n m t h g =
      let value : (v : ℕ) → v < 2 ^ k → msb_num (msb_digits k v) ≡ v = λ v low. msb_num-digits k v ∙ mod-eq_of_lt low in
      rw (
        take_at (msb_digits k n) (msb_digits k m ++ t) k (length-msb_digits k n),
        drop_at (msb_digits k n) (msb_digits k m ++ t) k (length-msb_digits k n),
        take_at (msb_digits k m) t k (length-msb_digits k m),
        value n h,
        value m g,
      )

  -- two different positions in the two orders are different bits
  orders-apart : (n m : ℕ) → n < 2 ^ k → m < 2 ^ k
      → code_bits two ++ (msb_digits k m ++ msb_digits k n) ≡ code_bits two ++ (msb_digits k n ++ msb_digits k m) → m ≡ n
  orders-apart n m h g e =
      let front : (p q : ℕ) → take k (drop 3 (code_bits two ++ (msb_digits k p ++ msb_digits k q))) ≡ msb_digits k p =
      λ p q. take_at (msb_digits k p) (msb_digits k q) k (length-msb_digits k p) in
      let same : msb_digits k m ≡ msb_digits k n =
      sym (front m n) ∙ ap (λ (l : List ℕ). take k (drop 3 l)) e ∙ front n m in
      sym (msb_num-digits k m ∙ mod-eq_of_lt g) ∙ ap msb_num same ∙ msb_num-digits k n ∙ mod-eq_of_lt h

  both-got : (n m : ℕ) (t : List ℕ) → n < 2 ^ k → m < 2 ^ k
      → let xs = photon m (photon n (dark k)) in
      Rewritten (2 ^ k) (group_bits k xs) (ltb m n) (code_bits two ++ (msb_digits k n ++ (msb_digits k m ++ t))) xs t
  both-got n m t h g =
      let xs = photon m (photon n (dark k)) in
      let p = msb_digits k n in
      let q = msb_digits k m in
      let whole : code_bits two ++ (p ++ (q ++ t)) ≡ code_bits two ++ (p ++ q) ++ t =
      ap (code_bits two ++◌) (sym (append_assoc p q t)) in
      let low = below-sum 65536 xs (rw (two-sum n m h g) (omega arith)) in
      by-test (ltb m n)
      (λ higher.
      let turned : group_bits k xs ≡ code_bits two ++ (q ++ p) =
      rw (photon-comm m n (dark k)) (two-bits m n g h (let y = ltb-true m n higher in omega arith)) in
      record {
        bits = code_bits two ++ (p ++ q);
        whole = whole;
        size = two_size n m;
        counts = low;
        long = ap length turned ∙ (omega (arith, length-append q p, length-append p q));
        same = (
          λ e. absurd (let z = orders-apart n m h g (sym turned ∙ e) in let y = ltb-true m n higher in omega arith),
          λ e. true-false higher e,
        );
      }
      )
      (λ lower. exact (group_bits k xs) (code_bits two ++ (p ++ q)) (two-bits n m h g (ltb-false m n lower)) whole (two_size n m) low lower)

  two-got : (n m : ℕ) (s t : List ℕ) → s ≡ msb_digits k n ++ (msb_digits k m ++ t) → n < 2 ^ k → m < 2 ^ k
      → let xs = photon m (photon n (dark k)) in
      Rewritten (2 ^ k) (group_bits k xs) (higher_first k (got two s)) (code_bits two ++ s) xs t
  two-got n m s t bits h g = rw (bits, higher-two n m t h g) (both-got n m t h g)

  direct-got : (s xs t : List ℕ) → PixelsRead (2 ^ k) s xs t → 3 ≤ sum xs
      → Rewritten (2 ^ k) (group_bits k xs) false (code_bits direct ++ s) xs t
  direct-got s xs t read h =
      exact (group_bits k xs) (code_bits direct ++ pixels_bits xs) (group_bits-direct k xs h)
      (ap (code_bits direct ++◌) read.bits) read.size read.counts refl

  body-got : (c : Code) (s : List ℕ) {xs r : List ℕ} → Below 2 s → read_body k c s ≡ got xs r
      → Rewritten (2 ^ k) (group_bits k xs) (higher_first k (got c s)) (code_bits c ++ s) xs r
  unfolding read_body
  body-got zeros s bin h = got_same (λ xs r. Rewritten (2 ^ k) (group_bits k xs) false (code_bits zeros ++ s) xs r) h (zeros-got s)
  body-got one s bin h =
      let (n, t, field, last) = then-got (read_field k s) (λ n r. got (photon n (dark k)) r) h in
      let (bits, low) = read_field-got k s bin field in
      got_same (λ xs r. Rewritten (2 ^ k) (group_bits k xs) false (code_bits one ++ s) xs r) last (one-got n s t bits low)
  body-got two s bin h =
      let (n, t, field, more) = then-got (read_field k s) (λ n r. read_field k r then λ m s. got (photon m (photon n (dark k))) s) h in
      let (bits, low) = read_field-got k s bin field in
      let (m, u, field', last) = then-got (read_field k t) (λ m s. got (photon m (photon n (dark k))) s) more in
      let (bits', low') = read_field-got k t (below_rest (msb_digits k n) t bits bin) field' in
      let all : s ≡ msb_digits k n ++ (msb_digits k m ++ u) = bits ∙ ap (msb_digits k n ++◌) bits' in
      got_same (λ xs r. Rewritten (2 ^ k) (group_bits k xs) (higher_first k (got two s)) (code_bits two ++ s) xs r) last
      (two-got n m s u all low low')
  body-got direct s bin h =
      let (ys, t, pixels, last) = then-got (read_pixels (2 ^ k) s) three_or_more h in
      by-test (ltb (sum ys) 3)
      (λ few. stops-got (rw few at last))
      (λ enough.
      got_same (λ xs r. Rewritten (2 ^ k) (group_bits k xs) false (code_bits direct ++ s) xs r) (rw enough at last)
      (direct-got s ys t (read_pixels-got (2 ^ k) s bin pixels) (ltb-false (sum ys) 3 enough)))

-- ---- a group
pub read_group-got : (k : ℕ) (b : List ℕ) {xs r : List ℕ} → Below 2 b → read_group k b ≡ got xs r
    → Rewritten (2 ^ k) (group_bits k xs) (swapped k b) b xs r
unfolding read_group swapped
read_group-got k b {xs} {r} bin h =
    let (c, s, code, body) = then-got (read_code b) (read_body k) h in
    let bits = read_code-got b bin code in
    let back = body-got k c s (below_rest (code_bits c) s bits bin) body in
    subst (λ (x : Parse Code). Rewritten (2 ^ k) (group_bits k xs) (higher_first k x) b xs r) (sym code)
    (subst (λ (l : List ℕ). Rewritten (2 ^ k) (group_bits k xs) (higher_first k (got c s)) l xs r) (sym bits) back)

-- ---- one after the other
or-false : (a b : Bool) → a ≡ false → b ≡ false → (a || b) ≡ false
or-false a b e f = rw (e, f)

back-append : {m n : ℕ} {v w : List ℕ} {g h : Bool} {b s r : List ℕ} (xs ys : List ℕ) → Rewritten m v g b xs s → Rewritten n w h s ys r
    → Rewritten (n + m) (v ++ w) (g || h) b (xs ++ ys) r
back-append {m} {n} {v} {w} {g} {h} {b} {s} {r} xs ys x y =
    let p = x.bits in
    let q = y.bits in
    let front : (v ++ w ≡ p ++ q) → v ≡ p =
    λ e. sym (take_at v w (length p) x.long) ∙ ap (take (length p)) e ∙ take_at p q (length p) refl in
    let back : (v ++ w ≡ p ++ q) → w ≡ q =
    λ e. sym (drop_at v w (length p) x.long) ∙ ap (drop (length p)) e ∙ drop_at p q (length p) refl in
    record {
      bits = p ++ q;
      whole = x.whole ∙ ap (p ++◌) y.whole ∙ sym (append_assoc p q r);
      size = omega (arith, length-append xs ys, x.size, y.size);
      counts = below-append xs ys x.counts y.counts;
      long = omega (arith, length-append v w, length-append p q, x.long, y.long);
      same = (
        λ e. or-false g h (x.same.0 (front e)) (y.same.0 (back e)),
        λ e. ap (◌++ w) (x.same.1 (or-false-left g h e)) ∙ ap (p ++◌) (y.same.1 (or-false-right g h e)),
      );
    }

-- ---- groups
more-got : (k n : ℕ) (b g ys s t : List ℕ) → read_group k b ≡ got g s
    → Rewritten (2 ^ k) (group_bits k g) (swapped k b) b g s
    → Rewritten (n * 2 ^ k) (groups_bits k n ys) (any_swapped k n s) s ys t
    → Rewritten (suc n * 2 ^ k) (groups_bits k (suc n) (g ++ ys)) (any_swapped k (suc n) b) b (g ++ ys) t
unfolding groups_bits any_swapped
more-got k n b g ys s t first x y =
    let pixels : suc n * 2 ^ k ≡ n * 2 ^ k + 2 ^ k = omega arith in
    rw (first, take_at g ys (2 ^ k) x.size, drop_at g ys (2 ^ k) x.size, pixels) (back-append g ys x y)

pub read_groups-got : (k n : ℕ) (b : List ℕ) {xs r : List ℕ} → Below 2 b → read_groups k n b ≡ got xs r
    → Rewritten (n * 2 ^ k) (groups_bits k n xs) (any_swapped k n b) b xs r
unfolding read_groups groups_bits any_swapped
read_groups-got k zero b bin h =
    got_same (λ xs r. Rewritten (0 * 2 ^ k) [] false b xs r) h
    (exact [] [] refl refl (sym (native.Mathlib.Nat.zero-mul (2 ^ k))) (below-nil (omega arith)) refl)
read_groups-got k (suc n) b bin h =
    let (g, s, first, more) = then-got (read_group k b) (λ xs r. read_groups k n r then λ ys s. got (xs ++ ys) s) h in
    let (ys, t, rest, last) = then-got (read_groups k n s) (λ ys s. got (g ++ ys) s) more in
    let x = read_group-got k b bin first in
    let y = read_groups-got k n s (below_rest x.bits s x.whole bin) rest in
    got_same (λ xs r. Rewritten (suc n * 2 ^ k) (groups_bits k (suc n) xs) (any_swapped k (suc n) b) b xs r) last
    (more-got k n b g ys s t first x y)
