-- The bytes of a whole number are those of its data bits: no other bytes of that length have them. Assumes nothing.
use Rattle.std.specs.Prelude.{ℕ, zero, suc, ◌+◌, ◌-◌, ◌*◌, ◌/◌, ◌%◌, ◌^◌, ◌≤◌, ◌<◌, ◌≡◌, refl, cond, List, [], ◌∷◌, length, get_or, leb}
use Rattle.std.proofs.Common.{pow-suc, mul_assoc, div-one, div-add-mod', arith, sym, ap, ◌∙◌, subst, le-leb}
use Rattle.std.proofs.Math.Nat.{pow-succ', mod-mod, div-div-eq-div-mul}
use Rattle.std.proofs.Math.Decide.{dec_lt}
use Rattle.std.proofs.Math.Arith.{digits_div}
use Rattle.std.proofs.lemmas.Bool.{lt-leb}
use Rattle.adaptive.specs.Number.{NumberFront, whole, fault, byte_before, front, data_of, continued, data_bytes}
use Rattle.adaptive.specs.Number.Laws.{data_of-lt, Fair, front-fair}

-- the elements are bytes
abbrev pub Bytes : List ℕ → Type 0
Bytes s = (i : ℕ) → get_or s i 0 < 256

-- ---- the most significant group first
continued-cons : (k d : ℕ) → continued (suc k) d ≡ (128 + d / 128 ^ k % 128) ∷ continued k d
unfolding continued
continued-cons zero d = rw (div-one d)
continued-cons (suc k) d =
    rw (continued-cons k (d / 128), div-div-eq-div-mul d 128 (128 ^ k), ← pow-succ' 128 k)

data_bytes-cons : (k d : ℕ) → data_bytes (suc k) d ≡ (128 + d / 128 ^ suc k % 128) ∷ data_bytes k d
unfolding data_bytes
data_bytes-cons k d =
    rw (continued-cons k (d / 128), div-div-eq-div-mul d 128 (128 ^ k), ← pow-succ' 128 k)

-- ---- groups above the k lowest make no difference
above-div : (k c d : ℕ) → (c * 128 ^ suc k + d) / 128 ≡ c * 128 ^ k + d / 128
above-div k c d =
    let top : c * 128 ^ suc k ≡ c * 128 ^ k * 128 = rw (pow-suc 128 k) (sym (mul_assoc c (128 ^ k) 128)) in
    omega arith

above-mod : (k c d : ℕ) → (c * 128 ^ suc k + d) % 128 ≡ d % 128
above-mod k c d =
    let top : c * 128 ^ suc k ≡ c * 128 ^ k * 128 = rw (pow-suc 128 k) (sym (mul_assoc c (128 ^ k) 128)) in
    omega arith

continued-above : (k c d : ℕ) → continued k (c * 128 ^ k + d) ≡ continued k d
unfolding continued
continued-above zero c d = refl
continued-above (suc k) c d = rw (above-div k c d, above-mod k c d, continued-above k c (d / 128))

data_bytes-above : (k c d : ℕ) → data_bytes k (c * 128 ^ suc k + d) ≡ data_bytes k d
unfolding data_bytes
data_bytes-above k c d = rw (above-div k c d, above-mod k c d, continued-above k c (d / 128))

pub data_bytes-mod : (k d : ℕ) → data_bytes k (d % 128 ^ suc k) ≡ data_bytes k d
data_bytes-mod k d =
    sym (data_bytes-above k (d / 128 ^ suc k) (d % 128 ^ suc k)) ∙ ap (data_bytes k) (div-add-mod' d (128 ^ suc k))

-- ---- a whole number at the front of bytes
abbrev Own : NumberFront → Type 0
Own (whole bs) = bs ≡ data_bytes (length bs - 1) (data_of bs)
Own (fault e) = Unit {0}

last-own : (b : ℕ) → b < 128 → b ∷ [] ≡ data_bytes 0 (data_of (b ∷ []))
unfolding data_bytes continued data_of
last-own b h = let same : b ≡ (b % 128 * 1 + 0) % 128 = omega arith in ap (λ (x : ℕ). x ∷ []) same

more-own : (b : ℕ) (bs : List ℕ) (k : ℕ) → 128 ≤ b → b < 256 → length bs ≡ suc k → bs ≡ data_bytes k (data_of bs)
    → b ∷ bs ≡ data_bytes (suc k) (data_of (b ∷ bs))
unfolding data_of
more-own b bs k low high e own =
    let below : data_of bs < 128 ^ suc k = rw (← e) (data_of-lt bs) in
    let first : 128 + b % 128 ≡ b = omega arith in
    rw (data_bytes-cons k (b % 128 * 128 ^ length bs + data_of bs), e, digits_div (b % 128) below, mod-mod b 128, first)
    (rw (data_bytes-above k (b % 128) (data_of bs)) (ap (λ (l : List ℕ). b ∷ l) own))

byte_before-own : (n b : ℕ) (s : List ℕ) → 128 ≤ b → b < 256 → (f : NumberFront) → Fair n s f → Own f → Own (byte_before b f)
byte_before-own n b s low high (whole bs) p own =
    let long : length bs ≡ suc (length bs - 1) = omega (arith, p.some) in
    let less : suc (length bs) - 1 ≡ suc (length bs - 1) = omega (arith, p.some) in
    rw less (more-own b bs (length bs - 1) low high long own)
byte_before-own n b s low high (fault e) p own = tt

front-own : (n : ℕ) (s : List ℕ) → Bytes s → Own (front n s)
unfolding front
front-own zero s h = tt
front-own (suc n) [] h = tt
front-own (suc n) (b ∷ s) h = by_flag (front-own n s (λ i. h (suc i))) (dec_lt b 128)
  where
    by_flag : Own (front n s) → Dec (b < 128) → Own (cond (leb 128 b) (byte_before b (front n s)) (whole (b ∷ [])))
    by_flag own (yes low) = rw (lt-leb 128 b low) (last-own b low)
    by_flag own (no high) =
        let g : 128 ≤ b = omega arith in
        rw (le-leb 128 b g) (byte_before-own n b s g (h 0) (front n s) (front-fair n s) own)

-- the bytes are those of their data bits
pub whole-own : (n : ℕ) (s bs : List ℕ) → Bytes s → front n s ≡ whole bs → bs ≡ data_bytes (length bs - 1) (data_of bs)
whole-own n s bs h e = subst Own e (front-own n s h)
