-- The laws of rows one after another: what is written is the records before the first faulty row. Assumes nothing.
use Prim.Native.Nat.{ℕ, zero, suc, ◌+◌, ◌*◌, ◌≤◌, ◌<◌}
use Rattle.std.proofs.Common.{zero-add, add-zero, mul-zero, not-suc-le-zero, le_of_suc-le-suc, ◌∙◌, drop-drop, ltb-true, ltb-false}
use native.Mathlib.Omega.{arith}
use Rattle.std.specs.Prelude.{◌≡◌, refl, drop, ltb}
use Rattle.std.proofs.Math.Path.{sym, ap}
use mathlib.Core.List.{List, ◌++◌}
use Rattle.answer.specs.Outcome.Laws.{unless-in}
use Rattle.row_format.specs.Lists.Laws.{by-test}
use Rattle.fits_format.specs.Image.{image_row}
use Rattle.fits_format.specs.Image.Call.{image_row-number, image_row-counted}
use Rattle.fits_format.specs.Conversion.{RowsWritten, rows_end, row_first, row_calls, row_at, row_number_at, row_record_at, in_order, FirstFault}

-- the image's bytes from the next row on
pub row_at-next : (w : ℕ) (image : List ℕ) (r : ℕ) → drop (2 * w) (row_at w image r) ≡ row_at w image (suc r)
row_at-next w image r =
    let e : 2 * w * r + 2 * w ≡ 2 * w * suc r = omega arith in
    drop-drop (2 * w) (2 * w * r) image ∙ ap (λ (k : ℕ). drop k image) e

-- of n rows from row r on, which have such numbers and such records, those before the first faulty one were written
record UpToFault (numbers : ℕ → ℕ) (records : ℕ → List ℕ) (r n : ℕ) (x : RowsWritten) : Type 0 where
  within : x.rows ≤ n
  before : (i : ℕ) → i < x.rows → numbers (r + i) ≡ 0
  faulty : x.rows < n → (x.number ≡ numbers (r + x.rows)) × (x.number ≡ 0 → ⊥)
  whole : x.rows ≡ n → x.number ≡ 0
  bytes : x.bytes ≡ in_order records r x.rows

module _ (numbers : ℕ → ℕ) (records : ℕ → List ℕ) (r n : ℕ) where
  fault-first : (k : ℕ) → numbers r ≡ suc k → UpToFault numbers records r (suc n) (rows_end (suc k))
  unfolding in_order
  fault-first k e = record {
    within = omega arith;
    before = λ i h. absurd (not-suc-le-zero h);
    faulty = λ h. (sym e ∙ ap numbers (sym (add-zero r)), λ z. absurd (omega (arith, z)));
    whole = λ h. absurd (omega (arith, h));
    bytes = refl;
  }

  fault-later : (x : RowsWritten) → numbers r ≡ 0 → UpToFault numbers records (suc r) n x
      → UpToFault numbers records r (suc n) (row_first (records r) x)
  unfolding in_order
  fault-later x e u = record {
    within = omega (arith, u.within);
    before = first;
    faulty = λ h.
        let f = u.faulty (le_of_suc-le-suc h) in
        (f.0 ∙ ap numbers (on x.rows), f.1);
    whole = λ h. u.whole (omega (arith, h));
    bytes = ap (λ (b : List ℕ). records r ++ b) u.bytes;
  }
    where
      on : (i : ℕ) → suc r + i ≡ r + suc i
      on i = omega arith

      first : (i : ℕ) → i < suc x.rows → numbers (r + i) ≡ 0
      first zero h = ap numbers (add-zero r) ∙ e
      first (suc i) h = ap numbers (sym (on i)) ∙ u.before i (le_of_suc-le-suc h)

module _ (lends : ℕ → List ℕ) (w : ℕ) (image : List ℕ) where
  nothing-before : row_at w image 0 ≡ image
  nothing-before = ap (λ (k : ℕ). drop k image) (mul-zero (2 * w))

  row_calls-up-to : (n r : ℕ) → UpToFault (row_number_at lends w image) (row_record_at w image) r n (row_calls lends w n r (row_at w image r))
  unfolding row_calls in_order
  row_calls-up-to zero r = record {
    within = omega arith;
    before = λ i h. absurd (not-suc-le-zero h);
    faulty = λ h. absurd (not-suc-le-zero h);
    whole = λ h. refl;
    bytes = refl;
  }
  row_calls-up-to (suc n) r =
      let s = row_at w image r in
      let number = image_row-number w r s (lends r) in
      unless-in (UpToFault (row_number_at lends w image) (row_record_at w image) r (suc n)) (image_row w r s (lends r)).answer.number rows_end _
      (λ k e. fault-first (row_number_at lends w image) (row_record_at w image) r n k (sym number ∙ e))
      (λ e.
      let none = sym number ∙ e in
      let later = fault-later (row_number_at lends w image) (row_record_at w image) r n _ none (row_calls-up-to n (suc r)) in
      rw (image_row-counted w r s (lends r) none, row_at-next w image r) later)

  -- the same from row 0 on
  pub row_calls-fault : (n : ℕ)
      → let x = row_calls lends w n 0 image in
      FirstFault (row_number_at lends w image) n x.rows x.number
  row_calls-fault n =
      let u = rw (nothing-before) at (row_calls-up-to n 0) in
      let from : (i : ℕ) → 0 + i ≡ i = zero-add in
      record {
        within = u.within;
        before = λ i h. ap (row_number_at lends w image) (sym (from i)) ∙ u.before i h;
        faulty = λ h. ((u.faulty h).0 ∙ ap (row_number_at lends w image) (from (row_calls lends w n 0 image).rows), (u.faulty h).1);
        whole = u.whole;
      }

  pub row_calls-bytes : (n : ℕ)
      → let x = row_calls lends w n 0 image in
      x.bytes ≡ in_order (row_record_at w image) 0 x.rows
  row_calls-bytes n = (rw (nothing-before) at (row_calls-up-to n 0)).bytes

-- ---- where the first r rows are right, and row r is faulty or r is the last: the first fault is there
module _ {numbers : ℕ → ℕ} {n k e : ℕ} (fault : FirstFault numbers n k e) (r : ℕ) (within : r ≤ n)
    (right : (i : ℕ) → i < r → numbers i ≡ 0) (stops : r < n → numbers r ≡ 0 → ⊥) where
  not-before : k < r → ⊥
  not-before h =
      let faulty = fault.faulty (omega (arith, h, within)) in
      faulty.1 (faulty.0 ∙ right k h)

  not_after : r < k → ⊥
  not_after h = stops (omega (arith, h, fault.within)) (fault.before r h)

  pub fault-place : k ≡ r
  fault-place =
      by-test (ltb k r)
      (λ t. absurd (not-before (ltb-true k r t)))
      (λ t. by-test (ltb r k)
      (λ u. absurd (not_after (ltb-true r k u)))
      (λ u. omega (arith, ltb-false k r t, ltb-false r k u)))

  pub fault-number : r < n → e ≡ numbers r
  fault-number h = (fault.faulty (omega (arith, h, fault-place))).0 ∙ ap numbers fault-place

  pub fault-none : r ≡ n → e ≡ 0
  fault-none h = fault.whole (fault-place ∙ h)
