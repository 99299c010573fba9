-- The laws of the rows that are asked for. Assumes nothing.
use Rattle.std.specs.Prelude.{ℕ, zero, suc, ◌+◌, ◌-◌, ◌/◌, ◌%◌, ◌≤◌, ◌<◌, ◌≡◌, refl, true, false, List, [], ◌∷◌, ◌++◌, length, take, drop, get_or, ltb, eqb, Option, Some, None}
use Rattle.std.proofs.Math.Numerals.{add-one}
use Rattle.std.proofs.Common.{arith, ◌∙◌, length-append, length-drop, take_at, take_all, drop-cons}
use Rattle.std.proofs.Math.Seq.{drop-append-add, drop-length}
use borrow.Author.Tests.{lt-ltb, le-ltb, eq-eqb, ne_eqb, ltb-true, ltb-false}
use Rattle.row_format.specs.Lists.Laws.{by-test}
use Rattle.text.specs.Text.{ascii, digit, decimal}
use Rattle.text.specs.Text.Laws.{decimal_digit, decimal-more}
use Rattle.text.specs.Number.{number_in}
use Rattle.text.specs.Number.Laws.{number-none, number_in-decimal}
use Rattle.sheet_to_text.specs.declared.range.RowRange.{RowRange}
use Rattle.sheet_to_text.specs.RowRange.{between, range_between, before_dash, range_in, is_asked}

-- ---- byte by byte
module _ (s : List ℕ) (i : ℕ) (h : i < length s) where
  pub dash-here : get_or s i 0 ≡ 45 → before_dash (drop i s) ≡ 0
  unfolding before_dash
  dash-here e = rw (drop-cons s i 0 h, eq-eqb (get_or s i 0) 45 e)

  pub dash-later : (get_or s i 0 ≡ 45 → ⊥) → before_dash (drop i s) ≡ suc (before_dash (drop (i + 1) s))
  unfolding before_dash
  dash-later e = rw (drop-cons s i 0 h, ne_eqb (get_or s i 0) 45 e, add-one i)

pub dash-end : (s : List ℕ) (i : ℕ) → i ≤ length s → length s ≤ i → before_dash (drop i s) ≡ 0
unfolding before_dash
dash-end s i h g = let e : i ≡ length s = omega arith in rw (e, drop-length s)

-- ---- where there is no dash there is no range
range_between-none : (d : Option ℕ) → range_between d None ≡ None
range_between-none (Some a) = refl
range_between-none None = refl

pub range_none : (s : List ℕ) → before_dash s ≡ length s → range_in s ≡ None
unfolding range_in
range_none s e =
    let none = number-none 65535 (drop (suc (before_dash s)) s) (omega (arith, length-drop (suc (before_dash s)) s)) in
    rw none (range_between-none (number_in 65535 (take (before_dash s) s)))

-- by what stands before the dash and behind it
pub range-is : (s : List ℕ) {k : ℕ} {a b : Option ℕ} → k ≡ before_dash s → a ≡ number_in 65535 (take k s)
    → b ≡ number_in 65535 (take (length s - (k + 1)) (drop (k + 1) s)) → range_between a b ≡ range_in s
unfolding range_in
range-is s {k} dash first last =
    let all = take_all (length s - (k + 1)) (drop (k + 1) s) (omega (arith, length-drop (k + 1) s)) in
    rw (first, last, all, dash, add-one (before_dash s))

-- ---- a range is read as it is written
before-append : (s t : List ℕ) → before_dash s ≡ length s → before_dash (s ++ t) ≡ length s + before_dash t
unfolding before_dash
before-append [] t e = omega arith
before-append (b ∷ s) t e =
    by-test (eqb b 45)
    (λ x. let none : 0 ≡ suc (length s) = rw x at e in absurd (omega arith))
    (λ x.
    let rest : suc (before_dash s) ≡ suc (length s) = rw x at e in
    let same : before_dash s ≡ length s = omega arith in
    rw x (omega (arith, before-append s t same)))

digit-dash : (d : ℕ) → before_dash (digit d ∷ []) ≡ 1
unfolding before_dash
digit-dash d = rw (ne_eqb (digit d) 45 (λ e. omega arith))

-- f of fuel are enough
decimal-dash : (f n : ℕ) → n ≤ f → before_dash (decimal n) ≡ length (decimal n)
decimal-dash zero n h = let small : n < 10 = omega arith in rw (decimal_digit n small) (digit-dash n)
decimal-dash (suc f) n h =
    by-test (ltb n 10)
    (λ t. rw (decimal_digit n (ltb-true n 10 t)) (digit-dash n))
    (λ t.
    let front = decimal-dash f (n / 10) (omega (arith, ltb-false n 10 t)) in
    rw (decimal-more n (ltb-false n 10 t))
    (before-append (decimal (n / 10)) (digit (n % 10) ∷ []) front
    ∙ omega (arith, digit-dash (n % 10), length-append (decimal (n / 10)) (digit (n % 10) ∷ []))))

pub range_back : (a b : ℕ) → a ≤ b → b ≤ 65535 → range_in (decimal a ++ (ascii "-" ++ decimal b)) ≡ Some (between a b)
unfolding range_in before_dash
range_back a b order most =
    let dash : before_dash (decimal a ++ (ascii "-" ++ decimal b)) ≡ length (decimal a) =
    before-append (decimal a) (ascii "-" ++ decimal b) (decimal-dash a a (omega arith)) ∙ omega arith in
    let rest : drop (suc (length (decimal a))) (decimal a ++ (ascii "-" ++ decimal b)) ≡ decimal b =
    rw (← add-one (length (decimal a))) (drop-append-add (decimal a) (ascii "-" ++ decimal b) 1) in
    rw (
      dash,
      take_at (decimal a) (ascii "-" ++ decimal b) (length (decimal a)) refl,
      rest,
      number_in-decimal 65535 a (omega arith),
      number_in-decimal 65535 b most,
      le-ltb b a order,
    )

-- ---- the test
module _ (r : RowRange) (n : ℕ) where
  pub asked-below : n < r.first → is_asked r n ≡ false
  unfolding is_asked
  asked-below h = rw (lt-ltb n r.first h)

  module _ (least : r.first ≤ n) where
    pub asked-above : r.last < n → is_asked r n ≡ false
    unfolding is_asked
    asked-above h = rw (le-ltb n r.first least, lt-ltb r.last n h)

    pub asked-within : n ≤ r.last → is_asked r n ≡ true
    unfolding is_asked
    asked-within h = rw (le-ltb n r.first least, le-ltb r.last n h)
