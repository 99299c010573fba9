-- The laws of what is kept of an integer: by its digits, and byte by byte. Assumes nothing.
use Rattle.std.specs.Prelude.{ℕ, zero, suc, ◌+◌, ◌-◌, ◌*◌, ◌≤◌, ◌<◌, min, ◌≡◌, refl, Bool, true, false, cond, not, List, [], ◌∷◌, length, take, drop, get_or, ℤ, pos, neg_ℤ, eqb, ltb}
use Rattle.std.proofs.Math.Numerals.{add-one}
use Rattle.std.proofs.Common.{arith, sym, ap, ◌∙◌, length-drop, drop-cons, take_all}
use borrow.Author.Tests.{eq-eqb, ne_eqb, eqb-true, ltb-true, ltb-false}
use Rattle.row_format.specs.Lists.{any}
use Rattle.row_format.specs.Lists.Laws.{by-test, true-false}
use Rattle.text.specs.Number.{is_digit}
use Rattle.fits_format.specs.Card.{no_integer, is_integer, digits_value, signed_digits, fixed_integer}
use Rattle.fits_reader.specs.Clipped.{clipped, digits_clipped, NotBlank}

-- ---- digits
pub digit-range : (b : ℕ) → is_digit b ≡ true → (48 ≤ b) × (b ≤ 57)
unfolding is_digit
digit-range b e =
    by-test (ltb b 48)
    (λ t. true-false (rw t at e) refl)
    (λ t. (ltb-false b 48 t, (let h : b < 58 = ltb-true b 58 (rw t at e) in omega arith)))

abbrev no_digit : ℕ → Bool
no_digit b = not (is_digit b)

-- what is kept of digits is what is kept of their number
digits_value_lem : (most v : ℕ) (s : List ℕ) → cond (any no_digit s) 0 (min (digits_value v s) most) ≡ digits_clipped most v s
unfolding any digits_value digits_clipped
digits_value_lem most v [] = refl
digits_value_lem most v (b ∷ bs) =
    by-test (is_digit b)
    (λ e. rw e (digits_value_lem most (v * 10 + (b - 48)) bs))
    (λ e. rw e)

clipped-cond : (t : Bool) (z : ℤ) → clipped (cond t no_integer (is_integer z)) ≡ cond t 0 (clipped (is_integer z))
clipped-cond true z = refl
clipped-cond false z = refl

-- no sign
clipped-digits : (s : List ℕ) → clipped (signed_digits (λ (z : ℤ). z) s) ≡ digits_clipped 4097 0 s
unfolding signed_digits digits_clipped
clipped-digits [] = refl
clipped-digits (b ∷ bs) = clipped-cond (any no_digit (b ∷ bs)) (pos (digits_value 0 (b ∷ bs))) ∙ digits_value_lem 4097 0 (b ∷ bs)

-- a minus sign: nothing above 0
clipped-minus : (k : ℕ) → clipped (is_integer (neg_ℤ (pos k))) ≡ 0
clipped-minus zero = refl
clipped-minus (suc k) = refl

nothing-kept : (t : Bool) (n : ℕ) → n ≡ 0 → cond t 0 n ≡ 0
nothing-kept true n e = refl
nothing-kept false n e = e

clipped-negative : (s : List ℕ) → clipped (signed_digits neg_ℤ s) ≡ 0
unfolding signed_digits
clipped-negative [] = refl
clipped-negative (b ∷ bs) =
    let v : ℕ = digits_value 0 (b ∷ bs) in
    clipped-cond (any no_digit (b ∷ bs)) (neg_ℤ (pos v))
    ∙ nothing-kept (any no_digit (b ∷ bs)) (clipped (is_integer (neg_ℤ (pos v)))) (clipped-minus v)

digits-minus : (s : List ℕ) → digits_clipped 4097 0 (45 ∷ s) ≡ 0
unfolding is_digit digits_clipped
digits-minus s = refl

-- ---- a value field, byte by byte
-- the part of a slice from i on
pub take_rest : (s : List ℕ) (i : ℕ) → take (length s - i) (drop i s) ≡ drop i s
take_rest s i = take_all (length s - i) (drop i s) (omega (arith, length-drop i s))

module _ (s : List ℕ) (i : ℕ) (h : i < length s) where
  pub integer-blank : get_or s i 0 ≡ 32 → fixed_integer (drop i s) ≡ fixed_integer (drop (i + 1) s)
  unfolding fixed_integer
  integer-blank e = rw (drop-cons s i 0 h, eq-eqb (get_or s i 0) 32 e, add-one i)

  pub not-blank : (get_or s i 0 ≡ 32 → ⊥) → NotBlank (drop i s)
  not-blank e = rw (drop-cons s i 0 h) (record { some = omega arith; first = e })

-- nothing is left
integer_empty : (s : List ℕ) → length s ≡ 0 → clipped (fixed_integer s) ≡ 0
unfolding fixed_integer
integer_empty [] e = refl
integer_empty (b ∷ bs) e = absurd (omega arith)

pub integer-none : (s : List ℕ) (i : ℕ) → length s ≤ i → clipped (fixed_integer (drop i s)) ≡ 0
integer-none s i h = integer_empty (drop i s) (omega (arith, length-drop i s))

-- the sign
pub integer-plus : (s : List ℕ) → NotBlank s → get_or s 0 0 ≡ 43 → clipped (fixed_integer s) ≡ digits_clipped 4097 0 (drop 1 s)
unfolding fixed_integer
integer-plus [] h e = absurd (omega arith)
integer-plus (b ∷ bs) h e = rw e (clipped-digits bs)

pub integer-other : (s : List ℕ) → NotBlank s → (get_or s 0 0 ≡ 43 → ⊥) → clipped (fixed_integer s) ≡ digits_clipped 4097 0 s
unfolding fixed_integer
integer-other [] h p = absurd (omega arith)
integer-other (b ∷ bs) h p =
    by-test (eqb b 45)
    (λ e. rw (eqb-true b 45 e) (clipped-negative bs ∙ sym (digits-minus bs)))
    (λ e. rw (ne_eqb b 32 h.first, ne_eqb b 43 p, e) (clipped-digits (b ∷ bs)))

-- ---- digits, byte by byte
-- ten times what is kept and a digit give what is kept of ten times the value and a digit
clipped-more : (most v d : ℕ) → min (min v most * 10 + d) most ≡ min (v * 10 + d) most
clipped-more most v d = omega arith

digits-clipped : (most v : ℕ) (s : List ℕ) → digits_clipped most (min v most) s ≡ digits_clipped most v s
unfolding digits_clipped
digits-clipped most v [] = omega arith
digits-clipped most v (b ∷ bs) =
    let d : ℕ = b - 48 in
    let same : digits_clipped most (min v most * 10 + d) bs ≡ digits_clipped most (v * 10 + d) bs =
    sym (digits-clipped most (min v most * 10 + d) bs)
    ∙ ap (λ (x : ℕ). digits_clipped most x bs) (clipped-more most v d)
    ∙ digits-clipped most (v * 10 + d) bs in
    ap (λ (x : ℕ). cond (is_digit b) x 0) same

module _ (most : ℕ) (s : List ℕ) (i v : ℕ) (h : i < length s) where
  pub digits-on : is_digit (get_or s i 0) ≡ true
      → digits_clipped most v (drop i s) ≡ digits_clipped most (min (v * 10 + (get_or s i 0 - 48)) most) (drop (i + 1) s)
  unfolding digits_clipped
  digits-on e =
      rw (drop-cons s i 0 h, e, add-one i) (sym (digits-clipped most (v * 10 + (get_or s i 0 - 48)) (drop (suc i) s)))

  pub digits-not : is_digit (get_or s i 0) ≡ false → digits_clipped most v (drop i s) ≡ 0
  unfolding digits_clipped
  digits-not e = rw (drop-cons s i 0 h, e)

digits-empty : (most v : ℕ) (s : List ℕ) → v ≤ most → length s ≡ 0 → digits_clipped most v s ≡ v
unfolding digits_clipped
digits-empty most v [] m e = omega arith
digits-empty most v (b ∷ bs) m e = absurd (omega arith)

pub digits-end : (most : ℕ) (s : List ℕ) (i v : ℕ) → v ≤ most → length s ≤ i → digits_clipped most v (drop i s) ≡ v
digits-end most s i v m h = digits-empty most v (drop i s) m (omega (arith, length-drop i s))
