-- The laws of a picture's rows. Assumes nothing.
use Rattle.std.specs.Prelude.{ℕ, ◌*◌, ◌≤◌, ◌≡◌, List, length, ltb}
use Rattle.answer.specs.Outcome.{outcome, refuse_if}
use Rattle.answer.specs.Outcome.Laws.{less_number-zero, or_else-zero-left, or_else-zero-right, unless-refused}
use Rattle.row_format.specs.Row.{pixel_bytes}
use Rattle.sheet_format.specs.declared.SheetState.{SheetState}
use Rattle.sheet_format.specs.Context.{context_of}
use Rattle.sheet_format.specs.Writing.{not_written, record_written}
use Rattle.fits_format.specs.Image.{big_endian}
use Rattle.pgm_format.specs.Conversion.{before_samples, pgm_row}

-- ---- a row's call
-- the samples are there
pub record SamplesStand (w n : ℕ) : Type 0 where
  pub some : 1 ≤ w
  pub narrow : w ≤ 4096
  pub there : 2 * w ≤ n

pub before_samples-zero : (w n : ℕ) → before_samples w n ≡ 0 → SamplesStand w n
unfolding before_samples
before_samples-zero w n e =
    let e1 = or_else-zero-right (refuse_if (ltb w 1) 17) _ e in
    record {
      some = less_number-zero w 1 16 (or_else-zero-left (refuse_if (ltb w 1) 17) _ e);
      narrow = less_number-zero 4096 w 10 (or_else-zero-left (refuse_if (ltb 4096 w) 11) _ e1);
      there = less_number-zero n (2 * w) 17 (or_else-zero-right (refuse_if (ltb 4096 w) 11) _ e1);
    }

module _ (w r : ℕ) (tb : List ℕ) (st : SheetState) (s m : List ℕ) where
  pub pgm_row-before : (before_samples w (length s) ≡ 0 → ⊥) → pgm_row w r tb st s m ≡ outcome (not_written (before_samples w (length s))) m
  unfolding pgm_row
  pgm_row-before some = unless-refused (before_samples w (length s)) (λ e. outcome (not_written e) m) _ some

  pub pgm_row-there : before_samples w (length s) ≡ 0
      → pgm_row w r tb st s m ≡ record_written 2 (record { row = r }) (context_of tb st) (pixel_bytes (big_endian w s)) m
  unfolding pgm_row
  pgm_row-there e = rw e
