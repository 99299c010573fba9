-- The header's judging: what a clipped integer tells, and each way out. Assumes nothing.
use Prim.Native.Nat.{ℕ, zero, suc, ◌+◌, ◌*◌, ◌/◌, ◌≤◌, ◌<◌}
use native.Mathlib.Omega.{arith}
use mathlib.Core.Path.{◌≡◌, refl, sym, ◌∙◌}
use mathlib.Core.Bool.{Bool, true, false, ◌||◌}
use mathlib.Core.List.{List, [], ◌∷◌}
use lib.ListN.{length, take, get_or, get_or-eq_default}
use lib.IntN.{pos, negsuc}
use lib.Dec.{ltb, eqb}
use borrow.Author.Tests.{ltb-true, ltb-false, lt-ltb, le-ltb, ne_eqb}
use Rattle.answer.specs.Outcome.{◌or_else◌, refuse_if, unless}
use Rattle.answer.specs.Outcome.Laws.{or_else-zero-left, or_else-zero-right, refuse_if-zero}
use Rattle.row_format.specs.Lists.{any}
use Rattle.row_format.specs.Lists.Laws.{by-test, true-false, and-true-all, or-false-left, or-false-right}
use Rattle.text.specs.Text.{ascii}
use Rattle.text.specs.Same.{same_bytes}
use Rattle.fits_format.specs.Card.{FieldValue, no_integer, is_integer, has_keyword, has_value, is_true, integer_of}
use Rattle.fits_format.specs.Header.{header_cards, before_end, card_integer, axis1, axis2, lacking, is_number, below_one, above_most, axis_length, stands, header_number, end_card, no_image, image_of, header_clauses}
use Rattle.fits_format.specs.Header.Laws.{before_end-front, before_end-most, stands-less, less-stands, length-plain_table_record}
use Rattle.fits_format.specs.Header.Clauses.{long_number, header_number-17, header_number-parts, accepted-long}
use Rattle.fits_reader.specs.Clipped.{clipped}
use Rattle.fits_reader.specs.Judged.{is_image, unfit_number, CardsRead}

-- ---- what a clipped integer tells
clipped-pos : (n k : ℕ) → n ≤ 4096 → eqb (clipped (is_integer (pos k))) n ≡ eqb k n
clipped-pos n k most =
    by-test (ltb k 4097)
    (λ t. let same : clipped (is_integer (pos k)) ≡ k = omega (arith, ltb-true k 4097 t) in rw same)
    (λ t.
    let h = ltb-false k 4097 t in
    let cut : clipped (is_integer (pos k)) ≡ 4097 = omega arith in
    rw (cut, ne_eqb k n (λ e. omega arith)) (ne_eqb 4097 n (λ e. omega arith)))

pub clipped-number : (n : ℕ) (v : FieldValue) → 1 ≤ n → n ≤ 4096 → eqb (clipped v) n ≡ is_number n v
clipped-number n no_integer least most = ne_eqb 0 n (λ e. omega arith)
clipped-number n (is_integer (pos k)) least most = clipped-pos n k most
clipped-number n (is_integer (negsuc k)) least most = ne_eqb 0 n (λ e. omega arith)

clipped-zero : (v : FieldValue) → clipped v ≡ 0 → (lacking v || below_one v) ≡ true
clipped-zero no_integer e = refl
clipped-zero (is_integer (pos k)) e = lt-ltb k 1 (omega arith)
clipped-zero (is_integer (negsuc k)) e = refl

clipped-there : (v : FieldValue) → (clipped v ≡ 0 → ⊥) → lacking v ≡ false
clipped-there no_integer some = absurd (some refl)
clipped-there (is_integer z) some = refl

clipped-least : (v : FieldValue) → (clipped v ≡ 0 → ⊥) → below_one v ≡ false
clipped-least no_integer some = refl
clipped-least (is_integer (pos k)) some =
    by-test (ltb k 1) (λ t. absurd (some (omega (arith, ltb-true k 1 t)))) (λ t. t)
clipped-least (is_integer (negsuc k)) some = absurd (some refl)

clipped-above : (v : FieldValue) → ltb 4096 (clipped v) ≡ above_most v
clipped-above no_integer = refl
clipped-above (is_integer (pos k)) =
    let kept = clipped (is_integer (pos k)) in
    by-test (ltb 4096 k)
    (λ t. lt-ltb 4096 kept (omega (arith, ltb-true 4096 k t)) ∙ sym t)
    (λ t. le-ltb 4096 kept (omega (arith, ltb-false 4096 k t)) ∙ sym t)
clipped-above (is_integer (negsuc k)) = refl

clipped-length : (v : FieldValue) → above_most v ≡ false → clipped v ≡ axis_length v
clipped-length no_integer e = refl
clipped-length (is_integer (pos k)) e = omega (arith, ltb-false 4096 k e)
clipped-length (is_integer (negsuc k)) e = refl

-- ---- 17
clause-given : (bs : List Bool) (i : ℕ) → get_or bs i false ≡ true → any (λ (b : Bool). b) bs ≡ true
unfolding any
clause-given [] i e = true-false e refl
clause-given (true ∷ bs) i e = refl
clause-given (false ∷ bs) zero e = true-false e refl
clause-given (false ∷ bs) (suc i) e = clause-given bs i e

module _ (s : List ℕ) where
  given : (i : ℕ) → get_or (header_clauses s) i false ≡ true → 17 ≡ unfit_number s
  given i e = rw (clause-given (header_clauses s) i e)

  -- an axis
  pub no-width : clipped (axis1 s) ≡ 0 → 17 ≡ unfit_number s
  unfolding header_clauses
  no-width e =
      by-test (lacking (axis1 s))
      (λ t. given 3 t)
      (λ t. given 5 (rw t at (clipped-zero (axis1 s) e)))

  pub no_rows : clipped (axis2 s) ≡ 0 → 17 ≡ unfit_number s
  unfolding header_clauses
  no_rows e =
      by-test (lacking (axis2 s))
      (λ t. given 4 t)
      (λ t. given 6 (rw t at (clipped-zero (axis2 s) e)))

  end-lacking : end_card s ≡ length (header_cards s) → stands "END     " (header_cards s) ≡ false
  unfolding end_card
  end-lacking e =
      by-test (stands "END     " (header_cards s)) (λ t. absurd (omega (arith, stands-less (header_cards s) t))) (λ t. t)

  pub no_end : end_card s ≡ length (header_cards s) → 17 ≡ unfit_number s
  unfolding header_clauses
  no_end e = given 9 (rw (end-lacking e))

  front : (e : ℕ) → e ≡ end_card s → take e (header_cards s) ≡ before_end (header_cards s)
  unfolding end_card
  front e is = rw is (sym (before_end-front (header_cards s)))

  abbrev scaled : ℕ → Bool
  scaled e = stands "BSCALE  " (take e (header_cards s)) || stands "BZERO   " (take e (header_cards s))

  pub scaled-refused : (e : ℕ) → e ≡ end_card s → scaled e ≡ true → 17 ≡ unfit_number s
  unfolding header_clauses
  scaled-refused e is some =
      by-test (stands "BSCALE  " (before_end (header_cards s)))
      (λ t. given 7 t)
      (λ t. given 8 (rw t at (rw (front e is) at some)))

  -- the first three cards
  pub image-refused : is_image s ≡ false → 17 ≡ unfit_number s
  unfolding header_clauses
  image-refused e =
      let a = is_true (ascii "SIMPLE  ") (get_or (header_cards s) 0 []) in
      let b = is_number 16 (card_integer "BITPIX  " 1 s) in
      by-test a
      (λ ta. by-test b (λ tb. given 2 (rw (rw (ta, tb) at e))) (λ tb. given 1 (rw tb)))
      (λ ta. given 0 (rw ta))

  less-of : {a b : ℕ} → a ≤ b → (a ≡ b → ⊥) → a < b
  less-of {a} {b} most other = by-test (ltb a b) (λ t. ltb-true a b t) (λ t. absurd (other (omega (arith, ltb-false a b t))))

  -- none of them
  pub unfit-none : (clipped (axis1 s) ≡ 0 → ⊥) → (clipped (axis2 s) ≡ 0 → ⊥) → (end_card s ≡ length (header_cards s) → ⊥)
      → (e : ℕ) → e ≡ end_card s → scaled e ≡ false → is_image s ≡ true → 0 ≡ unfit_number s
  unfolding header_clauses any end_card
  unfit-none width rows end e is plain image =
      let cs = header_cards s in
      let three = and-true-all (is_true (ascii "SIMPLE  ") (get_or cs 0 [])) (is_number 16 (card_integer "BITPIX  " 1 s))
      (is_number 2 (card_integer "NAXIS   " 2 s)) image in
      let plain' : (stands "BSCALE  " (before_end cs) || stands "BZERO   " (before_end cs)) ≡ false = rw (front e is) at plain in
      rw (
        three.0,
        three.1,
        three.2,
        clipped-there (axis1 s) width,
        clipped-there (axis2 s) rows,
        clipped-least (axis1 s) width,
        clipped-least (axis2 s) rows,
        or-false-left (stands "BSCALE  " (before_end cs)) (stands "BZERO   " (before_end cs)) plain',
        or-false-right (stands "BSCALE  " (before_end cs)) (stands "BZERO   " (before_end cs)) plain',
        less-stands cs (less-of (before_end-most cs) end),
      )

  -- fewer than five cards
  pub too_short : length (header_cards s) < 5 → header_number s ≡ 17
  unfolding header_clauses card_integer integer_of has_value has_keyword same_bytes
  too_short h =
      let none : get_or (header_cards s) 4 [] ≡ [] = get_or-eq_default (header_cards s) [] (omega arith) in
      header_number-17 s 4 (rw none)

-- ---- the header alone
-- one of 17 refuses it
pub judged-first : (s : List ℕ) (n : ℕ) → (n ≡ 0 → ⊥) → n ≡ unfit_number s → no_image n ≡ unless (header_number s) no_image (image_of s)
judged-first s zero some is = absurd (some refl)
judged-first s (suc n) some is = rw (header_number-parts s, ← is)

module _ (s : List ℕ) (w r e : ℕ) (cards : CardsRead s w r e) where
  long-is : refuse_if (ltb 4096 w) 11 or_else refuse_if (ltb 4096 r) 11 ≡ long_number s
  unfolding long_number
  long-is = rw (cards.width, cards.rows, clipped-above (axis1 s), clipped-above (axis2 s))

  -- one of 11
  pub judged-second : (n : ℕ) → (n ≡ 0 → ⊥) → 0 ≡ unfit_number s → n ≡ refuse_if (ltb 4096 w) 11 or_else refuse_if (ltb 4096 r) 11
      → no_image n ≡ unless (header_number s) no_image (image_of s)
  judged-second zero some fit is = absurd (some refl)
  judged-second (suc n) some fit is = rw (header_number-parts s, ← fit, ← long-is, ← is)

  -- none
  pub judged_none : 0 ≡ unfit_number s → 0 ≡ refuse_if (ltb 4096 w) 11 or_else refuse_if (ltb 4096 r) 11 → header_number s ≡ 0
  judged_none fit is = header_number-parts s ∙ rw (← fit, ← long-is, ← is)

  pub judged-done : header_number s ≡ 0
      → record { number = 0; width = w; rows = r; start = 2880 * (e / 36 + 1); count = 2078 }
      ≡ unless (header_number s) no_image (image_of s)
  unfolding long_number
  judged-done ok =
      let long = accepted-long s ok in
      let first = refuse_if-zero (above_most (axis1 s)) 10 (or_else-zero-left (refuse_if (above_most (axis1 s)) 11) _ long) in
      let second = refuse_if-zero (above_most (axis2 s)) 10 (or_else-zero-right (refuse_if (above_most (axis1 s)) 11) _ long) in
      rw (
        ok,
        cards.width ∙ clipped-length (axis1 s) first,
        cards.rows ∙ clipped-length (axis2 s) second,
        cards.end,
        length-plain_table_record,
      )

pub or_true_right : (a b : Bool) → b ≡ true → (a || b) ≡ true
or_true_right true b e = refl
or_true_right false b e = e
