-- The laws of numbers from text: a number is read as it is written. Assumes nothing.
use Rattle.std.specs.Prelude.{ℕ, zero, suc, ◌+◌, ◌-◌, ◌*◌, ◌/◌, ◌%◌, ◌≤◌, ◌<◌, ◌≡◌, refl, true, List, [], ◌∷◌, ◌++◌, length, drop, get_or, ltb, Option, Some, None}
use Rattle.std.proofs.Common.{add-one, arith, ◌∙◌, length-append, drop-cons, lt-ltb, le-ltb, ltb-true, ltb-false}
use Rattle.std.proofs.Math.Seq.{drop-length}
use Rattle.row_format.specs.Lists.Laws.{by-test, true-false}
use Rattle.text.specs.Text.{digit, decimal}
use Rattle.text.specs.Text.Laws.{decimal_digit, decimal-more}
use Rattle.text.specs.Number.{is_digit, with_digit, number_with, number_from, number_in, AtMost}

-- ---- digits
pub digit_low : (b : ℕ) → is_digit b ≡ true → 48 ≤ b
unfolding is_digit
digit_low b e = by-test (ltb b 48) (λ t. true-false e (rw t)) (λ t. ltb-false b 48 t)

pub digit-is : (b : ℕ) → 48 ≤ b → b < 58 → is_digit b ≡ true
unfolding is_digit
digit-is b low high = rw (le-ltb b 48 low, lt-ltb b 58 high)

pub with_digit-more : (most v b : ℕ) → most < v * 10 + (b - 48) → with_digit most v b ≡ None
unfolding with_digit
with_digit-more most v b h = rw (lt-ltb most (v * 10 + (b - 48)) h)

pub with_digit-is : (most v b n : ℕ) → n ≡ v * 10 + (b - 48) → n ≤ most → with_digit most v b ≡ Some n
unfolding with_digit
with_digit-is most v b n e h = rw (← e, le-ltb most n h)

pub with_digit-most : (most v b : ℕ) → AtMost most (with_digit most v b)
unfolding with_digit
with_digit-most most v b =
    by-test (ltb most (v * 10 + (b - 48)))
    (λ t. rw t tt)
    (λ t. rw t (ltb-false most (v * 10 + (b - 48)) t))

-- ---- one byte after the other
pub number_more : (most : ℕ) (d : Option ℕ) (s : List ℕ) (i : ℕ) → i < length s
    → number_from most d (drop i s) ≡ number_from most (number_with most d (get_or s i 0)) (drop (i + 1) s)
unfolding number_from
number_more most d s i h = rw (drop-cons s i 0 h, add-one i)

pub number-end : (most : ℕ) (d : Option ℕ) (s : List ℕ) (i : ℕ) → i ≤ length s → length s ≤ i → number_from most d (drop i s) ≡ d
unfolding number_from
number-end most d s i h g = let e : i ≡ length s = omega arith in rw (e, drop-length s)

pub number-some : (most : ℕ) (s : List ℕ) → (length s ≡ 0 → ⊥) → number_in most s ≡ number_from most (Some 0) s
unfolding number_in
number-some most [] h = absurd (h refl)
number-some most (b ∷ s) h = refl

pub number-none : (most : ℕ) (s : List ℕ) → length s ≡ 0 → number_in most s ≡ None
unfolding number_in
number-none most [] h = refl
number-none most (b ∷ s) h = absurd (omega arith)

-- ---- at most `most`
number_with-most : (most : ℕ) (d : Option ℕ) (b : ℕ) → AtMost most (number_with most d b)
unfolding number_with
number_with-most most (Some v) b = by-test (is_digit b) (λ t. rw t (with_digit-most most v b)) (λ t. rw t tt)
number_with-most most None b = tt

number_from-most : (most : ℕ) (d : Option ℕ) (s : List ℕ) → AtMost most d → AtMost most (number_from most d s)
unfolding number_from
number_from-most most d [] h = h
number_from-most most d (b ∷ s) h = number_from-most most (number_with most d b) s (number_with-most most d b)

pub number_in-most : (most : ℕ) (s : List ℕ) → AtMost most (number_in most s)
unfolding number_in
number_in-most most [] = tt
number_in-most most (b ∷ s) = number_from-most most (Some 0) (b ∷ s) (omega arith)

-- ---- a number is read as it is written
number_from-append : (most : ℕ) (d : Option ℕ) (s t : List ℕ) → number_from most d (s ++ t) ≡ number_from most (number_from most d s) t
unfolding number_from
number_from-append most d [] t = refl
number_from-append most d (b ∷ s) t = number_from-append most (number_with most d b) s t

pub with_digit-digit : (most n : ℕ) → n ≤ most → with_digit most (n / 10) (digit (n % 10)) ≡ Some n
with_digit-digit most n h = with_digit-is most (n / 10) (digit (n % 10)) n (omega arith) h

number_with-digit : (most n : ℕ) → n ≤ most → number_with most (Some (n / 10)) (digit (n % 10)) ≡ Some n
unfolding number_with
number_with-digit most n h = rw (digit-is (digit (n % 10)) (omega arith) (omega arith)) (with_digit-digit most n h)

number-digit : (most n : ℕ) → n < 10 → n ≤ most → number_from most (Some 0) (decimal n) ≡ Some n
unfolding number_from
number-digit most n less h =
    let none : n / 10 ≡ 0 = omega arith in
    let last : n % 10 ≡ n = omega arith in
    rw (decimal_digit n less) (rw (none, last) at (number_with-digit most n h))

-- f of fuel are enough
number_from-decimal : (most f n : ℕ) → n ≤ f → n ≤ most → number_from most (Some 0) (decimal n) ≡ Some n
unfolding number_from
number_from-decimal most zero n enough h = number-digit most n (omega arith) h
number_from-decimal most (suc f) n enough h =
    by-test (ltb n 10)
    (λ t. number-digit most n (ltb-true n 10 t) h)
    (λ t.
    let ten : 10 ≤ n = ltb-false n 10 t in
    let front : number_from most (Some 0) (decimal (n / 10)) ≡ Some (n / 10) =
    number_from-decimal most f (n / 10) (omega arith) (omega arith) in
    rw (decimal-more n ten, number_from-append most (Some 0) (decimal (n / 10)) (digit (n % 10) ∷ []), front) (number_with-digit most n h))

decimal-some : (n : ℕ) → length (decimal n) ≡ 0 → ⊥
decimal-some n e =
    by-test (ltb n 10)
    (λ t. omega (arith, rw (decimal_digit n (ltb-true n 10 t)) at e))
    (λ t. omega (arith, length-append (decimal (n / 10)) (digit (n % 10) ∷ []), rw (decimal-more n (ltb-false n 10 t)) at e))

pub number_in-decimal : (most n : ℕ) → n ≤ most → number_in most (decimal n) ≡ Some n
number_in-decimal most n h = number-some most (decimal n) (decimal-some n) ∙ number_from-decimal most n n (omega arith) h
