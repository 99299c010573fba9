-- The laws of bits in bytes. Assumes nothing.
use Rattle.std.specs.Prelude.{ℕ, zero, suc, ◌+◌, ◌-◌, ◌*◌, ◌/◌, ◌%◌, ◌^◌, ◌≤◌, ◌<◌, ◌≡◌, refl, List, [], ◌∷◌, ◌++◌, length, take, drop, get_or, replicate}
use Rattle.std.proofs.Common.{zero-le, arith, sym, ap, ◌∙◌, append_assoc, append-nil, length-append, length-drop, take-append-drop, shr-shr, pow_pos, pow-add, pow_mono}
use native.Mathlib.Nat.{zero-mod, zero-div, add-zero, zero-add, add_comm, add_assoc, mod-lt, mod-one, div-one, suc-add, mul-zero, mul-suc, mul-one, mul_assoc, add-mul, pow-suc, mod-eq_of_lt, div-lt_iff_lt-mul, not-suc-le-zero, le_of_suc-le-suc, lt_of_lt_of_le}
use lib.Seq.{take-nil, drop-nil, take-append-add, drop-append-add, take_at, drop_at, take-append-le, drop-append-le, length-take-le}
use lib.Arith.{digits_lt, digits_div, mod-mul}
use Rattle.std.specs.Int.Bits.{block_half, block_odd}
use Rattle.bitstream.specs.Bits.{digits, num_of, flat, cut, Below, pad}

pub below-nil : {k : ℕ} → 0 < k → Below k []
below-nil h = record { below = λ i. h }

pub below-cons : {k x : ℕ} {xs : List ℕ} → x < k → Below k xs → Below k (x ∷ xs)
below-cons {k} {x} {xs} h hs = record { below = go }
  where
    go : (i : ℕ) → get_or (x ∷ xs) i 0 < k
    go zero = h
    go (suc i) = hs.below i

pub below-head : {k x : ℕ} {xs : List ℕ} → Below k (x ∷ xs) → x < k
below-head h = h.below 0

pub below-tail : {k x : ℕ} {xs : List ℕ} → Below k (x ∷ xs) → Below k xs
below-tail h = record { below = λ i. h.below (suc i) }

pub below-append : {k : ℕ} (xs ys : List ℕ) → Below k xs → Below k ys → Below k (xs ++ ys)
below-append [] ys h g = g
below-append (x ∷ xs) ys h g = below-cons (below-head h) (below-append xs ys (below-tail h) g)

pub below-take : {k : ℕ} (n : ℕ) (xs : List ℕ) → Below k xs → Below k (take n xs)
below-take zero xs h = record { below = λ i. native.Mathlib.Nat.lt_of_le_of_lt zero-le (h.below 0) }
below-take (suc n) [] h = h
below-take (suc n) (x ∷ xs) h = below-cons (below-head h) (below-take n xs (below-tail h))

pub below-drop : {k : ℕ} (n : ℕ) (xs : List ℕ) → Below k xs → Below k (drop n xs)
below-drop zero xs h = h
below-drop (suc n) [] h = h
below-drop (suc n) (x ∷ xs) h = below-drop n xs (below-tail h)

-- ---- digits: the low bits of a number
pub length_digits : (w v : ℕ) → length (digits w v) ≡ w
unfolding digits
length_digits zero v = refl
length_digits (suc w) v = ap suc (length_digits w (v / 2))

pub below-digits : (w v : ℕ) → Below 2 (digits w v)
unfolding digits
below-digits zero v = below-nil (omega arith)
below-digits (suc w) v = below-cons (omega arith) (below-digits w (v / 2))

halves : (m v : ℕ) → v / 2 / 2 ^ m ≡ v / 2 ^ suc m
halves m v = shr-shr v 1 m ∙ ap (λ (k : ℕ). v / 2 ^ k) (native.Mathlib.Numerals.one-add m)

pub digits-split : (m n v : ℕ) → digits (m + n) v ≡ digits m v ++ digits n (v / 2 ^ m)
unfolding digits
digits-split zero n v = rw (zero-add n, div-one v)
digits-split (suc m) n v =
    let high = ap (λ (k : ℕ). digits m (v / 2) ++ digits n k) (halves m v) in
    rw (suc-add m n) (ap (λ (l : List ℕ). v % 2 ∷ l) (digits-split m n (v / 2) ∙ high))

pub digits-join : (n m q r : ℕ) → r < 2 ^ n → digits n r ++ digits m q ≡ digits (n + m) (q * 2 ^ n + r)
unfolding digits
digits-join zero m q r h =
    let e : q * 1 + r ≡ q = omega arith in
    rw (zero-add m, e)
digits-join (suc n) m q r h =
    let h' : r / 2 < 2 ^ n = (div-lt_iff_lt-mul {k = 2} (omega arith)).1 (rw (← pow-suc 2 n) h) in
    rw (suc-add n m, block_odd q n r, block_half q n r) (ap (r % 2 ∷◌) (digits-join n m q (r / 2) h'))

-- m bits above n bits are n + m bits
module _ (n m q r : ℕ) (hr : r < 2 ^ n) (hq : q < 2 ^ m) where
  pub above-lt : q * 2 ^ n + r < 2 ^ (n + m)
  above-lt = rw (add_comm n m, pow-add 2 m n) (digits_lt hq hr)

  pub above-fits : n < 32 → m ≤ 32 → q * 2 ^ n + r < 2 ^ 64
  above-fits few most = lt_of_lt_of_le above-lt (pow_mono {i = n + m} {j = 64} (omega arith))

pub digits_mod : (w v : ℕ) → digits w (v % 2 ^ w) ≡ digits w v
unfolding digits
digits_mod zero v = refl
digits_mod (suc w) v =
    let e : v % 2 ^ suc w ≡ v / 2 % 2 ^ w * 2 + v % 2 = ap (v %◌) (pow-suc 2 w) ∙ mod-mul v (pow_pos w) (omega arith) in
    let half : v % 2 ^ suc w / 2 ≡ v / 2 % 2 ^ w = ap (◌/ 2) e ∙ lib.Arith.digits_div (v / 2 % 2 ^ w) (mod-lt v (omega arith)) in
    let odd : v % 2 ^ suc w % 2 ≡ v % 2 = ap (◌% 2) e ∙ lib.Arith.digits_mod (v / 2 % 2 ^ w) (mod-lt v (omega arith)) in
    rw (half, odd) (ap (v % 2 ∷◌) (digits_mod w (v / 2)))

pub num_of-digits : (w v : ℕ) → num_of (digits w v) ≡ v % 2 ^ w
unfolding digits num_of
num_of-digits zero v = sym (mod-one v)
num_of-digits (suc w) v =
    rw (num_of-digits w (v / 2))
    (sym (ap (λ (k : ℕ). v % k) (pow-suc 2 w) ∙ mod-mul v (pow_pos w) (omega arith)))

-- ---- num_of: the number of some bits
pub num_of-append : (a b : List ℕ) → num_of (a ++ b) ≡ num_of b * 2 ^ length a + num_of a
unfolding num_of
num_of-append [] b = sym (add-zero _ ∙ mul-one (num_of b))
num_of-append (x ∷ a) b =
    rw (num_of-append a b, pow-suc 2 (length a), add-mul, add_assoc, mul_assoc)

pub num_of-lt : (b : List ℕ) → Below 2 b → num_of b < 2 ^ length b
unfolding num_of
num_of-lt [] h = omega arith
num_of-lt (x ∷ b) h = rw (pow-suc 2 (length b)) (digits_lt (num_of-lt b (below-tail h)) (below-head h))

pub digits-num_of : (b : List ℕ) → Below 2 b → digits (length b) (num_of b) ≡ b
unfolding digits num_of
digits-num_of [] h = refl
digits-num_of (x ∷ b) h =
    rw (digits_div (num_of b) (below-head h), lib.Arith.digits_mod (num_of b) (below-head h), digits-num_of b (below-tail h))

pub num_of-inj : (a b : List ℕ) → Below 2 a → Below 2 b → length a ≡ length b → num_of a ≡ num_of b → a ≡ b
num_of-inj a b ha hb l e =
    sym (digits-num_of a ha) ∙ ap (λ (n : ℕ). digits n (num_of a)) l ∙ ap (digits (length b)) e ∙ digits-num_of b hb

-- the low and the high part of the number of some bits
pub num_of-take : (n : ℕ) (b : List ℕ) → Below 2 b → num_of (take n b) ≡ num_of b % 2 ^ n
unfolding num_of
num_of-take zero b h = sym (mod-one (num_of b))
num_of-take (suc n) [] h = sym (zero-mod (2 ^ suc n))
num_of-take (suc n) (x ∷ b) h =
    let two : 0 < 2 = omega arith in
    rw (num_of-take n b (below-tail h), pow-suc 2 n, mod-mul (num_of b * 2 + x) (pow_pos n) two)
    (rw (digits_div (num_of b) (below-head h), lib.Arith.digits_mod (num_of b) (below-head h)))

pub num_of-drop : (n : ℕ) (b : List ℕ) → Below 2 b → num_of (drop n b) ≡ num_of b / 2 ^ n
unfolding num_of
num_of-drop zero b h = sym (div-one (num_of b))
num_of-drop (suc n) [] h = sym (zero-div (2 ^ suc n))
num_of-drop (suc n) (x ∷ b) h =
    num_of-drop n b (below-tail h) ∙ ap (λ (k : ℕ). k / 2 ^ n) (sym (digits_div (num_of b) (below-head h))) ∙ halves n (num_of b * 2 + x)

-- n bits from place k of some bits
pub num_of-field : (k n : ℕ) (b : List ℕ) → Below 2 b → num_of (take n (drop k b)) ≡ num_of b / 2 ^ k % 2 ^ n
num_of-field k n b h = num_of-take n (drop k b) (below-drop k b h) ∙ ap (λ (x : ℕ). x % 2 ^ n) (num_of-drop k b h)

-- ---- flat: numbers of one width, one after the other
pub length-flat : (w : ℕ) (xs : List ℕ) → length (flat w xs) ≡ w * length xs
unfolding flat
length-flat w [] = sym (mul-zero w)
length-flat w (x ∷ xs) =
    length-append (digits w x) (flat w xs)
    ∙ rw (length_digits w x, length-flat w xs) (add_comm w (w * length xs) ∙ sym (mul-suc w (length xs)))

pub below-flat : (w : ℕ) (xs : List ℕ) → Below 2 (flat w xs)
unfolding flat
below-flat w [] = below-nil (omega arith)
below-flat w (x ∷ xs) = below-append (digits w x) (flat w xs) (below-digits w x) (below-flat w xs)

pub flat_append : (w : ℕ) (xs ys : List ℕ) → flat w (xs ++ ys) ≡ flat w xs ++ flat w ys
unfolding flat
flat_append w [] ys = refl
flat_append w (x ∷ xs) ys = rw (flat_append w xs ys) (sym (append_assoc (digits w x) (flat w xs) (flat w ys)))

pub flat-take : (w n : ℕ) (xs : List ℕ) → flat w (take n xs) ≡ take (w * n) (flat w xs)
unfolding flat
flat-take w zero xs = ap (λ (k : ℕ). take k (flat w xs)) (sym (mul-zero w))
flat-take w (suc n) [] = sym (take-nil (w * suc n))
flat-take w (suc n) (x ∷ xs) =
    ap (digits w x ++◌) (flat-take w n xs)
    ∙ sym (take-append-add (digits w x) (flat w xs) (w * n))
    ∙ ap (λ (k : ℕ). take k (digits w x ++ flat w xs)) (ap (◌+ w * n) (length_digits w x) ∙ add_comm w (w * n) ∙ sym (mul-suc w n))

pub flat-drop : (w n : ℕ) (xs : List ℕ) → flat w (drop n xs) ≡ drop (w * n) (flat w xs)
unfolding flat
flat-drop w zero xs = ap (λ (k : ℕ). drop k (flat w xs)) (sym (mul-zero w))
flat-drop w (suc n) [] = sym (drop-nil (w * suc n))
flat-drop w (suc n) (x ∷ xs) =
    flat-drop w n xs
    ∙ sym (drop-append-add (digits w x) (flat w xs) (w * n))
    ∙ ap (λ (k : ℕ). drop k (digits w x ++ flat w xs)) (ap (◌+ w * n) (length_digits w x) ∙ add_comm w (w * n) ∙ sym (mul-suc w n))

-- ---- cut: a stream taken apart into numbers of one width
pub length_cut : (w n : ℕ) (b : List ℕ) → length (cut w n b) ≡ n
unfolding cut
length_cut w zero b = refl
length_cut w (suc n) b = ap suc (length_cut w n (drop w b))

pub get_d-cut : (w n : ℕ) (b : List ℕ) (i : ℕ) → i < n → get_or (cut w n b) i 0 ≡ num_of (take w (drop (w * i) b))
unfolding cut
get_d-cut w zero b i h = absurd (not-suc-le-zero h)
get_d-cut w (suc n) b zero h = ap (λ (k : ℕ). num_of (take w (drop k b))) (sym (mul-zero w))
get_d-cut w (suc n) b (suc i) h =
    get_d-cut w n (drop w b) i (le_of_suc-le-suc h)
    ∙ ap (λ (l : List ℕ). num_of (take w l))
    (lib.Seq.drop-drop (w * i) w b ∙ ap (λ (k : ℕ). drop k b) (add_comm w (w * i) ∙ sym (mul-suc w i)))

-- numbers below 2 ^ w come back, whatever follows
pub cut-flat : (w : ℕ) (xs r : List ℕ) → Below (2 ^ w) xs → cut w (length xs) (flat w xs ++ r) ≡ xs
unfolding cut flat
cut-flat w [] r h = refl
cut-flat w (x ∷ xs) r h =
    let e : digits w x ++ flat w xs ++ r ≡ digits w x ++ (flat w xs ++ r) = append_assoc (digits w x) (flat w xs) r in
    let long : length (digits w x) ≡ w = length_digits w x in
    rw (e, take_at (digits w x) (flat w xs ++ r) w long, drop_at (digits w x) (flat w xs ++ r) w long)
    (rw (num_of-digits w x, mod-eq_of_lt (below-head h), cut-flat w xs r (below-tail h)))

-- a stream in two parts, the first of m whole numbers
pub cut-append : (w m n : ℕ) (a b : List ℕ) → length a ≡ w * m → cut w (m + n) (a ++ b) ≡ cut w m a ++ cut w n b
unfolding cut
cut-append w zero n [] b e = rw (zero-add n)
cut-append w zero n (x ∷ a) b e = absurd (not-suc-le-zero (native.Mathlib.Nat.le_of_eq (e ∙ mul-zero w)))
cut-append w (suc m) n a b e =
    let whole : length a ≡ w * m + w = e ∙ mul-suc w m in
    let enough : w ≤ length a = omega arith in
    let rest : length (drop w a) ≡ w * m = length-drop w a ∙ (omega arith) in
    rw (suc-add m n, take-append-le w a b enough, drop-append-le w a b enough)
    (ap (num_of (take w a) ∷◌) (cut-append w m n (drop w a) b rest))

-- ---- the first k bits of a stream, 0 past its end
pub pad-add : (m n : ℕ) (b : List ℕ) → pad (m + n) b ≡ pad m b ++ pad n (drop m b)
pad-add zero n b = rw (zero-add n)
pad-add (suc m) n [] = rw (suc-add m n) (ap (0 ∷◌) (pad-add m n [] ∙ rw (drop-nil {A = ℕ} m)))
pad-add (suc m) n (x ∷ b) = rw (suc-add m n) (ap (x ∷◌) (pad-add m n b))

pub pad-take : (k : ℕ) (b : List ℕ) → pad k (take k b) ≡ pad k b
pad-take zero b = refl
pad-take (suc k) [] = refl
pad-take (suc k) (x ∷ b) = ap (x ∷◌) (pad-take k b)

pub pad-nil : (k : ℕ) → pad k [] ≡ replicate k 0
pad-nil zero = refl
pad-nil (suc k) = ap (0 ∷◌) (pad-nil k)

pub pad-all : (k : ℕ) (b : List ℕ) → length b ≤ k → pad k b ≡ b ++ replicate (k - length b) 0
pad-all k [] h = pad-nil k ∙ ap (λ (n : ℕ). replicate n 0) (sym (native.Mathlib.Nat.sub-zero k))
pad-all zero (x ∷ b) h = absurd (not-suc-le-zero h)
pad-all (suc k) (x ∷ b) h =
    let same = sym (native.Mathlib.Nat.suc-sub-suc k (length b)) in
    ap (x ∷◌) (pad-all k b (le_of_suc-le-suc h) ∙ ap (λ (n : ℕ). b ++ replicate n 0) same)

pub pad-append : (b c : List ℕ) (n : ℕ) → pad (length b + n) (b ++ c) ≡ b ++ pad n c
pad-append [] c n = rw (zero-add n)
pad-append (x ∷ b) c n = rw (suc-add (length b) n) (ap (x ∷◌) (pad-append b c n))

pub length-pad : (k : ℕ) (b : List ℕ) → length (pad k b) ≡ k
length-pad zero b = refl
length-pad (suc k) [] = ap suc (length-pad k [])
length-pad (suc k) (x ∷ b) = ap suc (length-pad k b)

pub below-pad : (k : ℕ) (b : List ℕ) → Below 2 b → Below 2 (pad k b)
below-pad zero b h = below-nil (omega arith)
below-pad (suc k) [] h = below-cons (omega arith) (below-pad k [] h)
below-pad (suc k) (x ∷ b) h = below-cons (below-head h) (below-pad k b (below-tail h))

pub pad-at : (p q : List ℕ) (n : ℕ) → length p ≡ n → pad n (p ++ q) ≡ p
pad-at p q n e = ap (λ (k : ℕ). pad k (p ++ q)) (sym e ∙ sym (add-zero (length p))) ∙ pad-append p q 0 ∙ append-nil p

pub take-pad : (k n : ℕ) (b : List ℕ) → k ≤ n → take k (pad n b) ≡ pad k b
take-pad k n b h =
    let e : n ≡ k + (n - k) = omega arith in
    ap (λ (m : ℕ). take k (pad m b)) e ∙ ap (take k) (pad-add k (n - k) b) ∙ take_at (pad k b) (pad (n - k) (drop k b)) k (length-pad k b)

pub drop-pad : (k n : ℕ) (b : List ℕ) → k ≤ n → drop k (pad n b) ≡ pad (n - k) (drop k b)
drop-pad k n b h =
    let e : n ≡ k + (n - k) = omega arith in
    ap (λ (m : ℕ). drop k (pad m b)) e ∙ ap (drop k) (pad-add k (n - k) b) ∙ drop_at (pad k b) (pad (n - k) (drop k b)) k (length-pad k b)

-- as many bits as are there, and fewer
pub pad-whole : (n : ℕ) (b : List ℕ) → length b ≡ n → pad n b ≡ b
pad-whole n b e = ap (pad n) (sym (append-nil b)) ∙ pad-at b [] n e

pub pad-short : (n : ℕ) (b : List ℕ) → n ≤ length b → pad n b ≡ take n b
pad-short n b h = ap (pad n) (sym (take-append-drop n b)) ∙ pad-at (take n b) (drop n b) n (length-take-le n b h)

pub digits-pad : (w : ℕ) (b : List ℕ) → Below 2 b → digits w (num_of b) ≡ pad w b
unfolding digits num_of
digits-pad zero b h = refl
digits-pad (suc w) [] h = ap (0 ∷◌) (digits-pad w [] h)
digits-pad (suc w) (x ∷ b) h =
    rw (digits_div (num_of b) (below-head h), lib.Arith.digits_mod (num_of b) (below-head h), digits-pad w b (below-tail h))

-- a stream taken apart and put together again
pub flat-cut : (w n : ℕ) (b : List ℕ) → Below 2 b → flat w (cut w n b) ≡ pad (w * n) b
unfolding cut flat
flat-cut w zero b h = ap (λ (k : ℕ). pad k b) (sym (mul-zero w))
flat-cut w (suc n) b h =
    ap (◌++ flat w (cut w n (drop w b))) (digits-pad w (take w b) (below-take w b h) ∙ pad-take w b)
    ∙ ap (pad w b ++◌) (flat-cut w n (drop w b) (below-drop w b h))
    ∙ sym (pad-add w (w * n) b)
    ∙ ap (λ (k : ℕ). pad k b) (add_comm w (w * n) ∙ sym (mul-suc w n))

pub below-cut : (w n : ℕ) (b : List ℕ) → Below 2 b → Below (2 ^ w) (cut w n b)
unfolding cut
below-cut w zero b h = below-nil (pow_pos w)
below-cut w (suc n) b h =
    below-cons (rw (num_of-take w b h) (mod-lt (num_of b) (pow_pos w))) (below-cut w n (drop w b) (below-drop w b h))

-- ---- little-endian numbers in bytes
-- the first byte is the lowest; a byte past the end counts as 0
pub number_of-suc : (n at : ℕ) (s : List ℕ)
    → num_of (flat 8 (take (suc n) (drop at s))) ≡ num_of (flat 8 (take n (drop (suc at) s))) * 256 + get_or s at 0 % 256
unfolding flat num_of
number_of-suc n zero [] = rw (take-nil n)
number_of-suc n zero (x ∷ s) = num_of-append (digits 8 x) (flat 8 (take n s)) ∙ rw (length_digits 8 x, num_of-digits 8 x)
number_of-suc n (suc at) [] = rw (take-nil n)
number_of-suc n (suc at) (x ∷ s) = number_of-suc n at s

-- ---- the bit at a place
pub get_d-digits : (w v k : ℕ) → k < w → get_or (digits w v) k 0 ≡ v / 2 ^ k % 2
unfolding digits
get_d-digits zero v k h = absurd (not-suc-le-zero h)
get_d-digits (suc w) v zero h = ap (◌% 2) (sym (div-one v))
get_d-digits (suc w) v (suc k) h = get_d-digits w (v / 2) k (le_of_suc-le-suc h) ∙ ap (◌% 2) (halves k v)
