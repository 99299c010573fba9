-- The laws of writing maps. Assumes nothing.
use Rattle.std.specs.Prelude.{ℕ, zero, suc, ◌+◌, ◌-◌, ◌^◌, ◌≤◌, ◌<◌, ◌≡◌, refl, List, [], ◌∷◌, ◌++◌, length, take, drop, replicate, ltb}
use Rattle.std.proofs.Common.{add-zero, zero-add, add-suc, suc-add, arith, sym, ap, ◌∙◌, append_assoc, append-nil, length-append, lt-ltb, le-ltb}
use Rattle.std.proofs.lemmas.List.{length-replicate}
use Rattle.bitstream.specs.Bits.{Below}
use Rattle.bitstream.specs.Bits.Laws.{below-nil, below-cons, below-append}
use Rattle.bitstream.specs.Msb.{msb_digits}
use Rattle.bitstream.specs.Msb.Laws.{below-msb_digits}
use Rattle.row_format.specs.Lists.Laws.{by-test}
use Rattle.map_format.specs.Reading.{Code, zeros, one, two, direct, sum, photon}
use Rattle.map_format.specs.Reading.Laws.{sum-zero, sum_zeros}
use Rattle.map_format.specs.Writing.{pixel_bits, pixels_bits, positions, positions_bits, bits_by_sum, group_bits, groups_bits}
use Rattle.map_format.specs.Choice.{code_bits}

-- ---- a pixel's three forms
six : msb_digits 6 63 ≡ msb_digits 2 3 ++ msb_digits 4 15
unfolding msb_digits
six = refl

pub pixel_bits-two : (x : ℕ) → x < 3 → pixel_bits x ≡ msb_digits 2 x
unfolding pixel_bits
pixel_bits-two x h = rw (lt-ltb x 3 h)

pub pixel_bits-four : (x : ℕ) → 3 ≤ x → x < 18 → pixel_bits x ≡ msb_digits 2 3 ++ msb_digits 4 (x - 3)
unfolding pixel_bits
pixel_bits-four x low high = rw (le-ltb x 3 low, lt-ltb x 18 high)

-- 111111 is the two ones and a four-bit field of 15
pub pixel_bits-sixteen : (x : ℕ) → 18 ≤ x → pixel_bits x ≡ msb_digits 2 3 ++ (msb_digits 4 15 ++ msb_digits 16 x)
unfolding pixel_bits
pixel_bits-sixteen x low =
    rw (le-ltb x 3 (omega arith), le-ltb x 18 low)
    (ap (◌++ msb_digits 16 x) six ∙ append_assoc (msb_digits 2 3) (msb_digits 4 15) (msb_digits 16 x))

-- ---- the positions of a group's photons
pub length-positions : (i : ℕ) (xs : List ℕ) → length (positions i xs) ≡ sum xs
unfolding positions sum
length-positions i [] = refl
length-positions i (x ∷ xs) =
    length-append (replicate x i) (positions (suc i) xs) ∙ rw (length-replicate x i, length-positions (suc i) xs)

-- of none, from pixel i on
pub positions-none : (i : ℕ) (xs : List ℕ) → sum xs ≡ 0 → positions i xs ≡ []
unfolding positions sum
positions-none i [] e = refl
positions-none i (zero ∷ xs) e = positions-none (suc i) xs (omega arith)
positions-none i (suc x ∷ xs) e = absurd (omega arith)

-- of one: its own
pub record OnePhoton (i : ℕ) (xs : List ℕ) : Type 0 where
  pub at : ℕ
  pub within : at < length xs
  pub only : positions i xs ≡ (i + at) ∷ []
  pub group : xs ≡ photon at (replicate (length xs) 0)

pub positions-one : (i : ℕ) (xs : List ℕ) → sum xs ≡ 1 → OnePhoton i xs
unfolding positions sum photon
positions-one i [] e = absurd (omega arith)
positions-one i (zero ∷ xs) e =
    let rest = positions-one (suc i) xs (omega arith) in
    record {
      at = suc rest.at;
      within = omega (arith, rest.within);
      only = rest.only ∙ ap (◌∷ []) (suc-add i rest.at ∙ sym (add-suc i rest.at));
      group = ap (0 ∷◌) rest.group;
    }
positions-one i (suc zero ∷ xs) e =
    record {
      at = 0;
      within = omega arith;
      only = rw (positions-none (suc i) xs (omega arith), add-zero i);
      group = ap (1 ∷◌) (sum-zero xs (omega arith));
    }
positions-one i (suc (suc x) ∷ xs) e = absurd (omega arith)

-- of two: the lower first
pub record TwoPhotons (i : ℕ) (xs : List ℕ) : Type 0 where
  pub first : ℕ
  pub second : ℕ
  pub order : first ≤ second
  pub within : second < length xs
  pub both : positions i xs ≡ (i + first) ∷ (i + second) ∷ []
  pub group : xs ≡ photon second (photon first (replicate (length xs) 0))

pub positions-two : (i : ℕ) (xs : List ℕ) → sum xs ≡ 2 → TwoPhotons i xs
unfolding positions sum photon
positions-two i [] e = absurd (omega arith)
positions-two i (zero ∷ xs) e =
    let rest = positions-two (suc i) xs (omega arith) in
    let one_more : (n : ℕ) → suc i + n ≡ i + suc n = λ n. omega arith in
    record {
      first = suc rest.first;
      second = suc rest.second;
      order = omega (arith, rest.order);
      within = omega (arith, rest.within);
      both = rest.both ∙ rw (one_more rest.first, one_more rest.second);
      group = ap (0 ∷◌) rest.group;
    }
positions-two i (suc zero ∷ xs) e =
    let rest = positions-one (suc i) xs (omega arith) in
    let one_more : suc i + rest.at ≡ i + suc rest.at = omega arith in
    record {
      first = 0;
      second = suc rest.at;
      order = omega arith;
      within = omega (arith, rest.within);
      both = rw (rest.only, one_more, add-zero i);
      group = ap (1 ∷◌) rest.group;
    }
positions-two i (suc (suc zero) ∷ xs) e =
    record {
      first = 0;
      second = 0;
      order = omega arith;
      within = omega arith;
      both = rw (positions-none (suc i) xs (omega arith), add-zero i);
      group = ap (2 ∷◌) (sum-zero xs (omega arith));
    }
positions-two i (suc (suc (suc x)) ∷ xs) e = absurd (omega arith)

-- and the other way: the positions of photons that are put into a group without any
pub positions-photon : (i p n : ℕ) → p < n → positions i (photon p (replicate n 0)) ≡ (i + p) ∷ []
unfolding positions photon
positions-photon i p zero h = absurd (omega arith)
positions-photon i zero (suc n) h = rw (positions-none (suc i) (replicate n 0) (sum_zeros n), add-zero i)
positions-photon i (suc p) (suc n) h =
    positions-photon (suc i) p n (omega arith) ∙ ap (◌∷ []) (let e : suc i + p ≡ i + suc p = omega arith in e)

pub positions-photons : (i p q n : ℕ) → p ≤ q → q < n
    → positions i (photon q (photon p (replicate n 0))) ≡ (i + p) ∷ (i + q) ∷ []
unfolding positions photon
positions-photons i p q zero h k = absurd (omega arith)
positions-photons i zero zero (suc n) h k = rw (positions-none (suc i) (replicate n 0) (sum_zeros n), add-zero i)
positions-photons i zero (suc q) (suc n) h k =
    let one_more : suc i + q ≡ i + suc q = omega arith in
    rw (positions-photon (suc i) q n (omega arith), one_more, add-zero i)
positions-photons i (suc p) zero (suc n) h k = absurd (omega arith)
positions-photons i (suc p) (suc q) (suc n) h k =
    let one_more : (n : ℕ) → suc i + n ≡ i + suc n = λ n. omega arith in
    positions-photons (suc i) p q n (omega arith) (omega arith) ∙ rw (one_more p, one_more q)

-- ---- positions as bits
pub positions_bits-one : (k p : ℕ) → positions_bits k (p ∷ []) ≡ msb_digits k p
unfolding positions_bits
positions_bits-one k p = append-nil (msb_digits k p)

pub positions_bits-two : (k p q : ℕ) → positions_bits k (p ∷ q ∷ []) ≡ msb_digits k p ++ msb_digits k q
unfolding positions_bits
positions_bits-two k p q = ap (msb_digits k p ++◌) (append-nil (msb_digits k q))

-- ---- a group by its photons
-- to show something, show it of no photon, of one, of two and of more
pub by-photons : {A : Type 0} (n : ℕ) → (n ≡ 0 → A) → (n ≡ 1 → A) → (n ≡ 2 → A) → (3 ≤ n → A) → A
by-photons zero none' one' two' more' = none' refl
by-photons (suc zero) none' one' two' more' = one' refl
by-photons (suc (suc zero)) none' one' two' more' = two' refl
by-photons (suc (suc (suc n))) none' one' two' more' = more' (omega arith)

module _ (k : ℕ) (xs : List ℕ) where
  pub group_bits-zeros : sum xs ≡ 0 → group_bits k xs ≡ code_bits zeros
  unfolding group_bits
  group_bits-zeros e = rw e

  pub group_bits-one : sum xs ≡ 1 → group_bits k xs ≡ code_bits one ++ positions_bits k (positions 0 xs)
  unfolding group_bits
  group_bits-one e = rw e

  pub group_bits-two : sum xs ≡ 2 → group_bits k xs ≡ code_bits two ++ positions_bits k (positions 0 xs)
  unfolding group_bits
  group_bits-two e = rw e

  by_three : (n : ℕ) → 3 ≤ n → bits_by_sum k n xs ≡ code_bits direct ++ pixels_bits xs
  by_three zero h = absurd (omega arith)
  by_three (suc zero) h = absurd (omega arith)
  by_three (suc (suc zero)) h = absurd (omega arith)
  by_three (suc (suc (suc n))) h = refl

  pub group_bits-direct : 3 ≤ sum xs → group_bits k xs ≡ code_bits direct ++ pixels_bits xs
  unfolding group_bits
  group_bits-direct h = by_three (sum xs) h

  -- with the positions themselves
  pub group_bits-at : (p : ℕ) → sum xs ≡ 1 → positions 0 xs ≡ (0 + p) ∷ [] → group_bits k xs ≡ code_bits one ++ msb_digits k p
  group_bits-at p e only =
      group_bits-one e ∙ ap (λ (l : List ℕ). code_bits one ++ positions_bits k l) only
      ∙ rw (zero-add p) (ap (code_bits one ++◌) (positions_bits-one k p))

  pub group_bits-both : (p q : ℕ) → sum xs ≡ 2 → positions 0 xs ≡ (0 + p) ∷ (0 + q) ∷ []
      → group_bits k xs ≡ code_bits two ++ (msb_digits k p ++ msb_digits k q)
  group_bits-both p q e both =
      group_bits-two e ∙ ap (λ (l : List ℕ). code_bits two ++ positions_bits k l) both
      ∙ rw (zero-add p, zero-add q) (ap (code_bits two ++◌) (positions_bits-two k p q))

-- ---- what is written is bits
below-pixel_bits : (x : ℕ) → Below 2 (pixel_bits x)
unfolding pixel_bits
below-pixel_bits x =
    by-test (ltb x 3)
    (λ small. rw small (below-msb_digits 2 x))
    (λ more. by-test (ltb x 18)
    (λ few. rw (more, few) (below-append (msb_digits 2 3) (msb_digits 4 (x - 3)) (below-msb_digits 2 3) (below-msb_digits 4 (x - 3))))
    (λ many. rw (more, many) (below-append (msb_digits 6 63) (msb_digits 16 x) (below-msb_digits 6 63) (below-msb_digits 16 x))))

below-pixels_bits : (xs : List ℕ) → Below 2 (pixels_bits xs)
unfolding pixels_bits
below-pixels_bits [] = below-nil (omega arith)
below-pixels_bits (x ∷ xs) = below-append (pixel_bits x) (pixels_bits xs) (below-pixel_bits x) (below-pixels_bits xs)

below-positions_bits : (k : ℕ) (ps : List ℕ) → Below 2 (positions_bits k ps)
unfolding positions_bits
below-positions_bits k [] = below-nil (omega arith)
below-positions_bits k (p ∷ ps) = below-append (msb_digits k p) (positions_bits k ps) (below-msb_digits k p) (below-positions_bits k ps)

below-code_bits : (c : Code) (b : List ℕ) → Below 2 b → Below 2 (code_bits c ++ b)
below-code_bits zeros b h = below-cons (omega arith) h
below-code_bits one b h = below-cons (omega arith) (below-cons (omega arith) h)
below-code_bits two b h = below-cons (omega arith) (below-cons (omega arith) (below-cons (omega arith) h))
below-code_bits direct b h = below-cons (omega arith) (below-cons (omega arith) (below-cons (omega arith) h))

pub below-group_bits : (k : ℕ) (xs : List ℕ) → Below 2 (group_bits k xs)
below-group_bits k xs =
    let at = positions_bits k (positions 0 xs) in
    let places = below-positions_bits k (positions 0 xs) in
    by-photons (sum xs)
    (λ e. rw (group_bits-zeros k xs e) (below-code_bits zeros [] (below-nil (omega arith))))
    (λ e. rw (group_bits-one k xs e) (below-code_bits one at places))
    (λ e. rw (group_bits-two k xs e) (below-code_bits two at places))
    (λ h. rw (group_bits-direct k xs h) (below-code_bits direct (pixels_bits xs) (below-pixels_bits xs)))

pub below-groups_bits : (k n : ℕ) (xs : List ℕ) → Below 2 (groups_bits k n xs)
unfolding groups_bits
below-groups_bits k zero xs = below-nil (omega arith)
below-groups_bits k (suc n) xs =
    let g = take (2 ^ k) xs in
    let ys = drop (2 ^ k) xs in
    below-append (group_bits k g) (groups_bits k n ys) (below-group_bits k g) (below-groups_bits k n ys)
