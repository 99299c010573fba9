-- The laws of numbers as text. Assumes nothing.
use Rattle.std.specs.Prelude.{ℕ, zero, suc, ◌/◌, ◌%◌, ◌^◌, ◌≤◌, ◌<◌, ◌≡◌, refl, Bool, true, false, [], ◌∷◌, ◌++◌, length, ltb, ℤ, pos, negsuc, nat_abs}
use Rattle.std.proofs.Common.{div-lt_iff_lt-mul, mod-eq_of_lt, pow-suc, arith, sym, ap, ◌∙◌, length-append, lt-ltb, le-ltb, ltb-true, ltb-false}
use Rattle.text.specs.Text.{digit, spelled, decimal, integer}

-- the two ways of a test, with what each says
by_ten : {A : Type 0} (n : ℕ) → (n < 10 → A) → (10 ≤ n → A) → A
by_ten {A} n less more = go (ltb n 10) refl
  where
    go : (b : Bool) → ltb n 10 ≡ b → A
    go true e = less (ltb-true n 10 e)
    go false e = more (ltb-false n 10 e)

-- ---- the digits of a number
spelled-digit : (f n : ℕ) → n < 10 → spelled f n ≡ digit n ∷ []
unfolding spelled
spelled-digit zero n h = rw (mod-eq_of_lt h)
spelled-digit (suc f) n h = rw (lt-ltb n 10 h)

spelled-more : (f n : ℕ) → 10 ≤ n → spelled (suc f) n ≡ spelled f (n / 10) ++ (digit (n % 10) ∷ [])
unfolding spelled
spelled-more f n h = rw (le-ltb n 10 h)

-- n of fuel are enough
spelled-enough : (f g n : ℕ) → n ≤ f → n ≤ g → spelled f n ≡ spelled g n
spelled-enough zero g n h k = spelled-digit 0 n (omega arith) ∙ sym (spelled-digit g n (omega arith))
spelled-enough (suc f) zero n h k = spelled-digit (suc f) n (omega arith) ∙ sym (spelled-digit 0 n (omega arith))
spelled-enough (suc f) (suc g) n h k =
    by_ten n
    (λ l. spelled-digit (suc f) n l ∙ sym (spelled-digit (suc g) n l))
    (λ l. spelled-more f n l
    ∙ ap (◌++ (digit (n % 10) ∷ [])) (spelled-enough f g (n / 10) (omega arith) (omega arith))
    ∙ sym (spelled-more g n l))

pub decimal_digit : (n : ℕ) → n < 10 → decimal n ≡ digit n ∷ []
unfolding decimal
decimal_digit n h = spelled-digit n n h

pub decimal-more : (n : ℕ) → 10 ≤ n → decimal n ≡ decimal (n / 10) ++ (digit (n % 10) ∷ [])
unfolding decimal
decimal-more zero h = absurd (omega arith)
decimal-more (suc n) h =
    spelled-more n (suc n) h ∙ ap (◌++ (digit (suc n % 10) ∷ [])) (spelled-enough n (suc n / 10) (suc n / 10) (omega arith) (omega arith))

-- a number below 10 ^ (k + 1) has at most k + 1 digits
pub length-decimal : (k n : ℕ) → n < 10 ^ suc k → length (decimal n) ≤ suc k
length-decimal zero n h = rw (decimal_digit n h) (omega arith)
length-decimal (suc k) n h =
    by_ten n
    (λ l. rw (decimal_digit n l) (omega arith))
    (λ l.
    let front : length (decimal (n / 10)) ≤ suc k =
    length-decimal k (n / 10) ((div-lt_iff_lt-mul (omega arith)).1 (rw (pow-suc 10 (suc k)) at h)) in
    rw (decimal-more n l, length-append (decimal (n / 10)) (digit (n % 10) ∷ [])) (omega arith))

-- one byte more than its digits at most
pub length-integer : (k : ℕ) (z : ℤ) → nat_abs z < 10 ^ suc k → length (integer z) ≤ suc (suc k)
unfolding integer
length-integer k (pos n) h = omega (arith, length-decimal k n h)
length-integer k (negsuc n) h = omega (arith, length-decimal k (suc n) h)
