-- Laws of bits that tables and rows need. Assumes nothing.
use Rattle.std.specs.Prelude.{ℕ, zero, suc, ◌+◌, ◌-◌, ◌*◌, ◌/◌, ◌^◌, ◌≤◌, ◌≡◌, refl, Bool, true, ◌&&◌, ◌||◌, List, [], ◌∷◌, ◌++◌, length, take, drop, replicate, eqb}
use Rattle.std.proofs.Common.{arith, sym, ap, ◌∙◌, append_assoc, append-nil, length-append, take-take, length-take-le, eq-eqb, eqb-true}
use Rattle.std.proofs.Math.Seq.{take-append-add}
use Rattle.bitstream.specs.Bits.{flat, cut, bits_of, bytes_of, stream, words_for, begins, Below, pad}
use Rattle.bitstream.specs.Bits.Laws.{pad-all, length_cut, length-flat, flat_append, flat-take, flat-cut, cut-flat}
use Rattle.row_format.specs.Lists.Laws.{true-false, and-true-left, and-true-right}

-- ---- pad
pub pad-within : (k : ℕ) (b : List ℕ) → k ≤ length b → pad k b ≡ take k b
pad-within zero b h = refl
pad-within (suc k) [] h = absurd (omega arith)
pad-within (suc k) (x ∷ b) h = ap (x ∷◌) (pad-within k b (omega arith))

-- ---- numbers of one width
-- numbers below 2 ^ w come back
pub cut-flat-all : (w n : ℕ) (xs : List ℕ) → Below (2 ^ w) xs → length xs ≡ n → cut w n (flat w xs) ≡ xs
cut-flat-all w n xs low size =
    ap (λ (k : ℕ). cut w k (flat w xs)) (sym size)
    ∙ ap (cut w (length xs)) (sym (append-nil (flat w xs)))
    ∙ cut-flat w xs [] low

pub bits_of-inj : (n : ℕ) (a b : List ℕ) → Below 256 a → Below 256 b → length a ≡ n → length b ≡ n
    → bits_of a ≡ bits_of b → a ≡ b
bits_of-inj n a b ha hb la lb e = sym (cut-flat-all 8 n a ha la) ∙ ap (bytes_of n) e ∙ cut-flat-all 8 n b hb lb

-- ---- streams of words
pub length-stream : (wb : List ℕ) → length (stream wb) ≡ 32 * (length wb / 4)
length-stream wb =
    let k = 4 * (length wb / 4) in
    let size : length (take k wb) ≡ k = length-take-le k wb (omega arith) in
    rw (length-flat 8 (take k wb), size) (omega arith)

-- the first words of a stream
pub stream-take : (wb : List ℕ) (w : ℕ) → 4 * w ≤ length wb → take (32 * w) (stream wb) ≡ bits_of (take (4 * w) wb)
stream-take wb w h =
    let k = 4 * (length wb / 4) in
    let place : 32 * w ≡ 8 * (4 * w) = omega arith in
    rw place (sym (flat-take 8 (4 * w) (take k wb)) ∙ ap (flat 8) (take-take (4 * w) k wb (omega arith)))

-- whole words stand in front of a stream by their bits
pub stream-append : (w : ℕ) (a s : List ℕ) → length a ≡ 4 * w → stream (a ++ s) ≡ bits_of a ++ stream s
stream-append w a s h =
    let k = 4 * (length s / 4) in
    let whole : 4 * (length (a ++ s) / 4) ≡ length a + 4 * (length s / 4) = rw (length-append a s) (omega arith) in
    rw (whole, take-append-add a s k, flat_append 8 a (take k s))

-- ---- the whole words that some bits fill
-- they hold the bits and then zeros
pub bits_of-bytes_of : (b : List ℕ) (u : ℕ) → u ≡ length b → Below 2 b
    → bits_of (bytes_of (4 * words_for u) b) ≡ b ++ replicate (32 * words_for u - u) 0
bits_of-bytes_of b u size bin =
    let place : 8 * (4 * words_for u) ≡ 32 * words_for u = omega arith in
    flat-cut 8 (4 * words_for u) b bin
    ∙ ap (λ (k : ℕ). pad k b) place
    ∙ pad-all (32 * words_for u) b (omega arith)
    ∙ ap (λ (n : ℕ). b ++ replicate (32 * words_for u - n) 0) (sym size)

-- in a stream, the bits stand in front, then zeros up to the end of the last word, then the rest
pub stream-bytes_of : (b s : List ℕ) → Below 2 b
    → stream (bytes_of (4 * words_for (length b)) b ++ s) ≡ b ++ (replicate (32 * words_for (length b) - length b) 0 ++ stream s)
stream-bytes_of b s bin =
    let w = words_for (length b) in
    stream-append w (bytes_of (4 * w) b) s (length_cut 8 (4 * w) b)
    ∙ ap (◌++ stream s) (bits_of-bytes_of b (length b) refl bin)
    ∙ append_assoc b (replicate (32 * w - length b) 0) (stream s)

-- ---- begins
begins-head : (x c : ℕ) (a r : List ℕ) → begins (x ∷ a) (c ∷ r) ≡ true → x ≡ c
unfolding begins
begins-head x c a r p = eqb-true x c (and-true-left (eqb x c) (begins a r) p)

begins-tail : (x c : ℕ) (a r : List ℕ) → begins (x ∷ a) (c ∷ r) ≡ true → begins a r ≡ true
unfolding begins
begins-tail x c a r p = and-true-right (eqb x c) (begins a r) p

-- of two strings that begin the same bits, one begins the other
pub begins-both : (a b r : List ℕ) → begins a r ≡ true → begins b r ≡ true → (begins a b || begins b a) ≡ true
unfolding begins
begins-both [] b r p q = refl
begins-both (x ∷ a) [] r p q = refl
begins-both (x ∷ a) (y ∷ b) [] p q = true-false q refl
begins-both (x ∷ a) (y ∷ b) (c ∷ r) p q =
    let same : x ≡ y = begins-head x c a r p ∙ sym (begins-head y c b r q) in
    rw (eq-eqb x y same, eq-eqb y x (sym same)) (begins-both a b r (begins-tail x c a r p) (begins-tail y c b r q))

pub begins-length : (a r : List ℕ) → begins a r ≡ true → length a ≤ length r
unfolding begins
begins-length [] r p = omega arith
begins-length (x ∷ a) [] p = true-false p refl
begins-length (x ∷ a) (c ∷ r) p = omega (arith, begins-length a r (begins-tail x c a r p))

-- of two strings of one length, either begins the other
pub begins-swap : (a r : List ℕ) → length r ≤ length a → begins a r ≡ true → begins r a ≡ true
unfolding begins
begins-swap [] [] h p = refl
begins-swap [] (c ∷ r) h p = absurd (omega arith)
begins-swap (x ∷ a) [] h p = refl
begins-swap (x ∷ a) (c ∷ r) h p =
    rw (eq-eqb c x (sym (begins-head x c a r p))) (begins-swap a r (omega arith) (begins-tail x c a r p))

-- only as many bits are looked at as the string has
pub begins-take : (a r : List ℕ) (k : ℕ) → length a ≤ k → begins a (take k r) ≡ begins a r
unfolding begins
begins-take [] r k h = refl
begins-take (x ∷ a) r zero h = absurd (omega arith)
begins-take (x ∷ a) [] (suc k) h = refl
begins-take (x ∷ a) (c ∷ r) (suc k) h = ap (λ (q : Bool). eqb x c && q) (begins-take a r k (omega arith))

pub begins-append : (a r : List ℕ) → begins a (a ++ r) ≡ true
unfolding begins
begins-append [] r = refl
begins-append (x ∷ a) r = rw (eq-eqb x x refl) (begins-append a r)

pub begins-drop : (a r : List ℕ) → begins a r ≡ true → r ≡ a ++ drop (length a) r
unfolding begins
begins-drop [] r p = refl
begins-drop (x ∷ a) [] p = true-false p refl
begins-drop (x ∷ a) (c ∷ r) p = rw (begins-head x c a r p) (ap (c ∷◌) (begins-drop a r (begins-tail x c a r p)))
