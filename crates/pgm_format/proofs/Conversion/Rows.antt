-- What rows of samples come to, one after another: the records of the lines before the first faulty one. Assumes nothing.
use Prim.Native.Nat.{ℕ, zero, suc, ◌+◌, ◌*◌, ◌≤◌, ◌<◌}
use Rattle.std.proofs.Common.{add-zero, mul-zero, not-suc-le-zero, le_of_suc-le-suc, sym, ◌∙◌, length-append, drop-drop, le-ltb}
use native.Mathlib.Omega.{arith}
use Rattle.std.specs.Prelude.{◌≡◌, refl, false, length, drop, ltb}
use Rattle.std.proofs.Math.Path.{ap}
use mathlib.Core.List.{List, [], ◌∷◌, ◌++◌, append_assoc}
use Rattle.std.proofs.Math.ListN.{length-drop}
use Rattle.answer.specs.Outcome.{refuse_if}
use Rattle.answer.specs.Outcome.Laws.{refuse_if-zero, less_number-zero, or_else-zero-left, or_else-zero-right, unless-in}
use Rattle.row_format.specs.Lists.{any}
use Rattle.fits_format.specs.Image.{big_endian}
use Rattle.fits_format.specs.Heights.{heights_record, heights_records, LineRight, LinesRight}
use Rattle.fits_format.specs.Image.Laws.{length-big_endian, big_endian-front}
use Rattle.fits_format.specs.Conversion.{RowsWritten, rows_end, row_first, row_at, FirstFault}
use Rattle.fits_format.specs.Conversion.Laws.{fault-place, fault-number, fault-none}
use Rattle.pgm_format.specs.Samples.{lines_in}
use Rattle.pgm_format.specs.Conversion.{line_refusal, line_record, line_records}

-- ---- a row that is not refused
module _ (w : ℕ) (s : List ℕ) (none : line_refusal w s ≡ 0) where
  pub line-there : 2 * w ≤ length s
  unfolding line_refusal
  line-there = less_number-zero (length s) (2 * w) 17 (or_else-zero-left (refuse_if (ltb (length s) (2 * w)) 18) _ none)

  pub line_low : any (ltb 4095) (big_endian w s) ≡ false
  unfolding line_refusal
  line_low = refuse_if-zero (any (ltb 4095) (big_endian w s)) 3 (or_else-zero-right (refuse_if (ltb (length s) (2 * w)) 18) _ none)

  pub line-right : w ≤ 4096 → LineRight (big_endian w s)
  line-right narrow = record { few = omega (arith, length-big_endian w s); low = line_low }

-- ---- n rows from row r on, of which s is the bytes
pub record UpToLine (tb : List ℕ) (w r n : ℕ) (s : List ℕ) (x : RowsWritten) : Type 0 where
  pub there : 2 * w * x.rows ≤ length s
  pub bytes : x.bytes ≡ heights_records tb r (lines_in w x.rows s)
  pub right : LinesRight (lines_in w x.rows s)
  pub fault : FirstFault (λ i. line_refusal w (row_at w s i)) n x.rows x.number

at_first : (w : ℕ) (s : List ℕ) → row_at w s 0 ≡ s
at_first w s = ap (λ (k : ℕ). drop k s) (mul-zero (2 * w))

at_next : (w : ℕ) (s : List ℕ) (i : ℕ) → row_at w (drop (2 * w) s) i ≡ row_at w s (suc i)
at_next w s i =
    let e : 2 * w + 2 * w * i ≡ 2 * w * suc i = omega arith in
    drop-drop (2 * w * i) (2 * w) s ∙ ap (λ (k : ℕ). drop k s) e

module _ (tb : List ℕ) (w : ℕ) (narrow : w ≤ 4096) where
  fault-here : (r n : ℕ) (s : List ℕ) (k : ℕ) → line_refusal w s ≡ suc k → UpToLine tb w r (suc n) s (rows_end (suc k))
  unfolding lines_in heights_records
  fault-here r n s k e = record {
    there = omega arith;
    bytes = refl;
    right = tt;
    fault = record {
      within = omega arith;
      before = λ i h. absurd (not-suc-le-zero h);
      faulty = λ h. (rw (at_first w s) (sym e), λ z. absurd (omega (arith, z)));
      whole = λ h. absurd (omega (arith, h));
    };
  }

  fault-on : (r n : ℕ) (s : List ℕ) (x : RowsWritten) → line_refusal w s ≡ 0 → UpToLine tb w (suc r) n (drop (2 * w) s) x
      → UpToLine tb w r (suc n) s (row_first (line_record tb w r s) x)
  unfolding lines_in heights_records
  fault-on r n s x none u = record {
    there =
        let size : 2 * w * suc x.rows ≡ 2 * w + 2 * w * x.rows = omega arith in
        omega (arith, size, u.there, length-drop (2 * w) s, line-there w s none);
    bytes = ap (λ (b : List ℕ). line_record tb w r s ++ b) u.bytes;
    right = (line-right w s none narrow, u.right);
    fault = record {
      within = omega (arith, u.fault.within);
      before = first;
      faulty = λ h.
          let f = u.fault.faulty (le_of_suc-le-suc h) in
          (f.0 ∙ ap (line_refusal w) (at_next w s x.rows), f.1);
      whole = λ h. u.fault.whole (omega (arith, h));
    };
  }
    where
      first : (i : ℕ) → i < suc x.rows → line_refusal w (row_at w s i) ≡ 0
      first zero h = rw (at_first w s) none
      first (suc i) h = ap (line_refusal w) (sym (at_next w s i)) ∙ u.fault.before i (le_of_suc-le-suc h)

  pub lines-up-to : (n r : ℕ) (s : List ℕ) → UpToLine tb w r n s (line_records tb w n r s)
  unfolding line_records lines_in heights_records
  lines-up-to zero r s = record {
    there = omega arith;
    bytes = refl;
    right = tt;
    fault = record {
      within = omega arith;
      before = λ i h. absurd (not-suc-le-zero h);
      faulty = λ h. absurd (not-suc-le-zero h);
      whole = λ h. refl;
    };
  }
  lines-up-to (suc n) r s =
      unless-in (UpToLine tb w r (suc n) s) (line_refusal w s) rows_end _
      (λ k e. fault-here r n s k e)
      (λ e. fault-on r n s (line_records tb w n (suc r) (drop (2 * w) s)) e (lines-up-to n (suc r) (drop (2 * w) s)))

-- ---- where the first r rows are right, and r is refused or the last
module _ {tb : List ℕ} {w n : ℕ} {s : List ℕ} {x : RowsWritten} (u : UpToLine tb w 0 n s x) (r : ℕ) (within : r ≤ n)
    (right : (i : ℕ) → i < r → line_refusal w (row_at w s i) ≡ 0) (stops : r < n → line_refusal w (row_at w s r) ≡ 0 → ⊥) where
  pub rows_are : x.rows ≡ r
  rows_are = fault-place u.fault r within right stops

  pub bytes-are : x.bytes ≡ heights_records tb 0 (lines_in w r s)
  bytes-are = u.bytes ∙ ap (λ (k : ℕ). heights_records tb 0 (lines_in w k s)) rows_are

  pub number_is : r < n → x.number ≡ line_refusal w (row_at w s r)
  number_is = fault-number u.fault r within right stops

  pub number-none : r ≡ n → x.number ≡ 0
  number-none = fault-none u.fault r within right stops

-- ---- what follows a row changes nothing of it
pub line_refusal-front : (w : ℕ) (s t : List ℕ) → 2 * w ≤ length s → line_refusal w (s ++ t) ≡ line_refusal w s
unfolding line_refusal
line_refusal-front w s t there =
    rw (
      big_endian-front w s t there,
      le-ltb (length (s ++ t)) (2 * w) (omega (arith, length-append s t, there)),
      le-ltb (length s) (2 * w) there,
    )

pub heights_records-append : (tb : List ℕ) (r : ℕ) (ls ks : List (List ℕ))
    → heights_records tb r (ls ++ ks) ≡ heights_records tb r ls ++ heights_records tb (r + length ls) ks
unfolding heights_records
heights_records-append tb r [] ks = rw (add-zero r)
heights_records-append tb r (l ∷ ls) ks =
    let e : suc r + length ls ≡ r + suc (length ls) = omega arith in
    rw (heights_records-append tb (suc r) ls ks, e)
    (sym (append_assoc (heights_record tb r l) (heights_records tb (suc r) ls) (heights_records tb (r + suc (length ls)) ks)))
