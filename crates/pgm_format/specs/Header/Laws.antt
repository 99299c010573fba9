-- The laws of a header's parts: separators and digits counted byte by byte. Assumes nothing.
use Rattle.std.specs.Prelude.{ℕ, suc, ◌+◌, ◌≤◌, ◌<◌, min, ◌≡◌, Bool, true, false, List, [], ◌∷◌, take, drop, get_or, ltb, eqb}
use Rattle.std.proofs.Math.Numerals.{add-one}
use native.Mathlib.Omega.{arith}
use Rattle.std.proofs.Math.Path.{sym}
use Rattle.std.proofs.Common.{◌∙◌, drop-cons, take_all}
use Rattle.std.proofs.Math.ListN.{length}
use Rattle.std.proofs.Math.Seq.{drop-length, drop-drop, take-length}
use borrow.Author.Tests.{ltb-true, ltb-false, lt-ltb, le-ltb, eqb-true, eqb-false, eq-eqb, ne_eqb}
use Rattle.row_format.specs.Lists.Laws.{by-test}
use Rattle.answer.specs.Outcome.Laws.{unless-refused}
use Rattle.text.specs.Text.{ascii}
use Rattle.text.specs.Number.{is_digit}
use Rattle.text.specs.Same.{same_bytes}
use Rattle.fits_format.specs.Card.{digits_value}
use Rattle.pgm_format.specs.Header.{is_blank, separates, comments, gap_from, gap_bytes, digit_bytes, field_value, field_bytes}
use Rattle.pgm_format.specs.Header.{field_at, after_field}
use Rattle.pgm_format.specs.Header.{rows_place, largest_place, blank_place, fields_number, front_number, no_pgm, pgm_of, front_read}
use Rattle.pgm_format.specs.Header.Accepted.{fields_fit}

-- ---- one byte after the other: those before i were counted
module _ (s : List ℕ) (i : ℕ) where
  pub gap_more : (c : Bool) → i < length s → separates c (get_or s i 0) ≡ true
      → gap_from c (drop i s) ≡ suc (gap_from (comments c (get_or s i 0)) (drop (i + 1) s))
  unfolding gap_from
  gap_more c h e = rw (drop-cons s i 0 h, e, add-one i)

  pub gap-end : (c : Bool) → i < length s → separates c (get_or s i 0) ≡ false → gap_from c (drop i s) ≡ 0
  unfolding gap_from
  gap-end c h e = rw (drop-cons s i 0 h, e)

  pub gap-none : (c : Bool) → i ≤ length s → length s ≤ i → gap_from c (drop i s) ≡ 0
  unfolding gap_from
  gap-none c h g = let e : i ≡ length s = omega arith in rw (e, drop-length s)

  pub digits_more : i < length s → is_digit (get_or s i 0) ≡ true → digit_bytes (drop i s) ≡ suc (digit_bytes (drop (i + 1) s))
  unfolding digit_bytes
  digits_more h e = rw (drop-cons s i 0 h, e, add-one i)

  pub digits-end : i < length s → is_digit (get_or s i 0) ≡ false → digit_bytes (drop i s) ≡ 0
  unfolding digit_bytes
  digits-end h e = rw (drop-cons s i 0 h, e)

  pub digits-none : i ≤ length s → length s ≤ i → digit_bytes (drop i s) ≡ 0
  unfolding digit_bytes
  digits-none h g = let e : i ≡ length s = omega arith in rw (e, drop-length s)

-- ---- no more than there are
pub gap-most : (c : Bool) (s : List ℕ) → gap_from c s ≤ length s
unfolding gap_from
gap-most c [] = omega arith
gap-most c (b ∷ s) =
    let rest = gap-most (comments c b) s in
    by-test (separates c b) (λ e. rw e (omega arith)) (λ e. rw e (omega arith))

pub digits-most : (s : List ℕ) → digit_bytes s ≤ length s
unfolding digit_bytes
digits-most [] = omega arith
digits-most (b ∷ s) =
    let rest = digits-most s in
    by-test (is_digit b) (λ e. rw e (omega arith)) (λ e. rw e (omega arith))

-- ---- a field, by its separators g and its digits d
module _ (s : List ℕ) (at g d : ℕ) (gap : g ≡ gap_bytes (drop at s)) (digits : d ≡ digit_bytes (drop (at + g) s)) where
  pub field_end : at + g + d ≡ after_field at s
  unfolding field_bytes
  field_end = rw (← gap, drop-drop g at s, ← digits) (omega arith)

  pub field-none : g ≡ 0 → 0 ≡ field_at at s
  unfolding field_value
  field-none e = rw (← gap, eq-eqb g 0 e)

  pub field-number : (g ≡ 0 → ⊥) → digits_value 0 (take d (drop (at + g) s)) ≡ field_at at s
  unfolding field_value
  field-number e = rw (← gap, ne_eqb g 0 e, drop-drop g at s, ← digits)

-- ---- a number is judged by what is kept of it up to 65537, which no header may have
abbrev pub field_kept : ℕ → ℕ
field_kept n = min n 65537

kept_same : (n k : ℕ) → k < 65537 → eqb (field_kept n) k ≡ eqb n k
kept_same n k h =
    by-test (eqb n k)
    (λ t. rw t (eq-eqb (field_kept n) k (omega (arith, eqb-true n k t))))
    (λ t. rw t (ne_eqb (field_kept n) k (λ e. eqb-false n k t (omega (arith, e)))))

kept_less : (k n : ℕ) → k < 65537 → ltb k (field_kept n) ≡ ltb k n
kept_less k n h =
    by-test (ltb k n)
    (λ t. rw t (lt-ltb k (field_kept n) (omega (arith, ltb-true k n t))))
    (λ t. rw t (le-ltb k (field_kept n) (omega (arith, ltb-false k n t))))

fields-kept : (w r largest : ℕ) (blank : Bool)
    → fields_number (field_kept w) (field_kept r) (field_kept largest) blank ≡ fields_number w r largest blank
unfolding fields_number
fields-kept w r largest blank =
    rw (
      kept_same w 0 (omega arith),
      kept_same r 0 (omega arith),
      kept_same largest 4095 (omega arith),
      kept_less 4096 w (omega arith),
      kept_less 65536 r (omega arith),
    )

-- ---- the three fields
pub record FieldsRead (s : List ℕ) (w r largest end : ℕ) (blank : Bool) : Type 0 where
  pub begins : same_bytes (take 2 s) (ascii "P5") ≡ true
  pub width : w ≡ field_kept (field_at 2 s)
  pub rows : r ≡ field_kept (field_at (rows_place s) s)
  pub most : largest ≡ field_kept (field_at (largest_place s) s)
  pub ends : end ≡ blank_place s
  pub closed : blank ≡ is_blank (get_or s end 0)

pub front-unlike : (s : List ℕ) → same_bytes (take 2 s) (ascii "P5") ≡ false → front_read s ≡ no_pgm 17
unfolding front_read front_number
front-unlike s e = rw e

module _ {s : List ℕ} {w r largest end : ℕ} {blank : Bool} (read : FieldsRead s w r largest end blank) where
  fields-number : fields_number w r largest blank
      ≡ fields_number (field_at 2 s) (field_at (rows_place s) s) (field_at (largest_place s) s) blank
  fields-number =
      rw (read.width, read.rows, read.most)
      (fields-kept (field_at 2 s) (field_at (rows_place s) s) (field_at (largest_place s) s) blank)

  pub front-number : fields_number w r largest blank ≡ front_number s
  unfolding front_number
  front-number = fields-number ∙ rw (read.begins, read.closed, read.ends)

  pub front-refused : {n : ℕ} → n ≡ fields_number w r largest blank → (n ≡ 0 → ⊥) → front_read s ≡ no_pgm n
  unfolding front_read
  front-refused {n} e some =
      rw (← front-number, ← e) (unless-refused n no_pgm (pgm_of s) some)

  pub front-accepted : {n : ℕ} → n ≡ fields_number w r largest blank → n ≡ 0
      → front_read s ≡ record { number = 0; width = w; rows = r; start = end + 1 }
  unfolding front_read
  front-accepted e none =
      let fits =
      fields_fit (field_at 2 s) (field_at (rows_place s) s) (field_at (largest_place s) s) blank (sym fields-number ∙ sym e ∙ none) in
      let width : w ≡ field_at 2 s = omega (arith, read.width, fits.wide) in
      let rows : r ≡ field_at (rows_place s) s = omega (arith, read.rows, fits.high) in
      rw (← front-number, ← e, none, width, rows, read.ends)

-- ---- n bytes from the front, or as many as there are
pub take_min : (n : ℕ) (l : List ℕ) → take (min n (length l)) l ≡ take n l
take_min n l =
    by-test (ltb (length l) n)
    (λ t.
    let few = ltb-true (length l) n t in
    let all : min n (length l) ≡ length l = omega arith in
    rw (all, take-length l) (sym (take_all n l (omega arith))))
    (λ t.
    let many = ltb-false (length l) n t in
    let some : min n (length l) ≡ n = omega arith in
    rw some)
