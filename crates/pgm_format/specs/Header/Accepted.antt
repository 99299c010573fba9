-- What an accepted header says, and that a refused one says nothing more. Assumes nothing.
use Rattle.std.specs.Prelude.{ℕ, ◌≤◌, ◌<◌, ◌≡◌, refl, Bool, true, not, List, length, take, get_or, ltb, eqb}
use Rattle.std.proofs.Common.{arith, sym, ap, ◌∙◌, length-take, ltb-true, ltb-false}
use Rattle.std.proofs.Math.ListN.{get_or-eq_default}
use Rattle.std.proofs.lemmas.Bool.{eqb-false, not-false}
use Rattle.answer.specs.Outcome.{refuse_if}
use Rattle.answer.specs.Outcome.Laws.{refuse_if-zero, less_number-zero, or_else-zero-left, or_else-zero-right, unless-number, unless-refused}
use Rattle.row_format.specs.Lists.Laws.{by-test, true-false}
use Rattle.text.specs.Text.{ascii}
use Rattle.text.specs.Same.{same_bytes}
use Rattle.pgm_format.specs.Header.{is_blank, field_at, rows_place, largest_place, blank_place, fields_number, front_number, no_pgm, pgm_of}
use Rattle.pgm_format.specs.Header.{PgmRead, front_read, pgm_header, PgmAccepted}

-- a blank that is there has a place
blank-inside : (s : List ℕ) (at : ℕ) → is_blank (get_or s at 0) ≡ true → at < length s
unfolding is_blank
blank-inside s at e =
    by-test (ltb at (length s))
    (λ t. ltb-true at (length s) t)
    (λ t. true-false e (rw (get_or-eq_default s 0 {n = at} (ltb-false at (length s) t))))

-- ---- the numbers and the blank
pub record FieldsFit (w r : ℕ) (blank : Bool) : Type 0 where
  pub some : w ≡ 0 → ⊥
  pub any-rows : r ≡ 0 → ⊥
  pub closed : blank ≡ true
  pub wide : w ≤ 4096
  pub high : r ≤ 65536

pub fields_fit : (w r largest : ℕ) (blank : Bool) → fields_number w r largest blank ≡ 0 → FieldsFit w r blank
unfolding fields_number
fields_fit w r largest blank e =
    let e1 = or_else-zero-right (refuse_if (eqb w 0) 17) _ e in
    let e2 = or_else-zero-right (refuse_if (eqb r 0) 17) _ e1 in
    let e3 = or_else-zero-right (refuse_if (not (eqb largest 4095)) 17) _ e2 in
    let e4 = or_else-zero-right (refuse_if (not blank) 17) _ e3 in
    record {
      some = eqb-false w 0 (refuse_if-zero (eqb w 0) 16 (or_else-zero-left (refuse_if (eqb w 0) 17) _ e));
      any-rows = eqb-false r 0 (refuse_if-zero (eqb r 0) 16 (or_else-zero-left (refuse_if (eqb r 0) 17) _ e1));
      closed = not-false blank (refuse_if-zero (not blank) 16 (or_else-zero-left (refuse_if (not blank) 17) _ e3));
      wide = less_number-zero 4096 w 10 (or_else-zero-left (refuse_if (ltb 4096 w) 11) _ e4);
      high = less_number-zero 65536 r 10 (or_else-zero-right (refuse_if (ltb 4096 w) 11) _ e4);
    }

-- ---- of the bytes that it ends in
front-number : (s : List ℕ) → (front_read s).number ≡ front_number s
unfolding front_read
front-number s = unless-number (λ (h : PgmRead). h.number) no_pgm (pgm_of s) (λ k. refl) (front_number s) refl

module _ (s : List ℕ) (ok : (front_read s).number ≡ 0) where
  number : front_number s ≡ 0
  number = sym (front-number s) ∙ ok

  pub front-is : front_read s ≡ pgm_of s
  unfolding front_read
  front-is = rw number

  pub front_fits : FieldsFit (field_at 2 s) (field_at (rows_place s) s) (is_blank (get_or s (blank_place s) 0))
  unfolding front_number
  front_fits =
      fields_fit (field_at 2 s) (field_at (rows_place s) s) (field_at (largest_place s) s) (is_blank (get_or s (blank_place s) 0))
      (or_else-zero-right (refuse_if (not (same_bytes (take 2 s) (ascii "P5"))) 17) _ number)

  pub front_ends : blank_place s < length s
  front_ends = blank-inside s (blank_place s) front_fits.closed

-- ---- of a file
pub pgm-accepted : (s : List ℕ) → (pgm_header s).number ≡ 0 → PgmAccepted s (pgm_header s)
unfolding pgm_header
pgm-accepted s ok =
    let t = take 65536 s in
    let fits = front_fits t ok in
    let ends = front_ends t ok in
    rw (front-is t ok) (record {
      width-least = omega (arith, fits.some);
      width-most = fits.wide;
      rows-least = omega (arith, fits.any-rows);
      rows-most = fits.high;
      start-within = omega (arith, ends, length-take 65536 s);
      start-most = omega (arith, ends, length-take 65536 s);
    })

pub pgm-refused : (s : List ℕ) → ((pgm_header s).number ≡ 0 → ⊥) → pgm_header s ≡ no_pgm (pgm_header s).number
unfolding pgm_header front_read
pgm-refused s bad =
    let t = take 65536 s in
    unless-refused (front_number t) no_pgm (pgm_of t) (λ e. bad (front-number t ∙ e)) ∙ ap no_pgm (sym (front-number t))
