-- Rows one after another, as far as the first that is refused: a row looks at its own bytes alone, and the rows before it
-- settle what converting comes to. Assumes nothing.
use Rattle.std.specs.Prelude.{ℕ, zero, suc, ◌+◌, ◌*◌, ◌≤◌, ◌<◌, ◌≡◌, refl, List, ◌++◌, length}
use Rattle.std.proofs.Common.{arith, sym, ap, ◌∙◌, append_assoc, append-nil}
use Rattle.std.proofs.Math.ListN.{length-append}
use borrow.Author.Tests.{le-ltb}
use Rattle.answer.specs.Outcome.Laws.{or_else-zero-left}
use Rattle.fits_format.specs.Image.{row_record, before_pixels, image_row_number}
use Rattle.fits_format.specs.Image.Laws.{big_endian-front}
use Rattle.fits_format.specs.Image.Call.{RowStands, before_pixels-zero}
use Rattle.fits_format.specs.Conversion.{RowsWritten, row_calls, row_number_at, row_record_at, in_order, FirstFault}
use Rattle.fits_format.specs.Conversion.Laws.{row_calls-fault, row_calls-bytes, fault-place, fault-number, fault-none}

-- ---- a row's own bytes
module _ (w r : ℕ) (s t : List ℕ) (there : 2 * w ≤ length s) where
  pub row_record-front : row_record w r (s ++ t) ≡ row_record w r s
  unfolding row_record
  row_record-front = rw (big_endian-front w s t there)

  pub image_row_number-front : (room : ℕ) → image_row_number w r (s ++ t) room ≡ image_row_number w r s room
  unfolding image_row_number before_pixels
  image_row_number-front room =
      let longer = length-append s t in
      rw (
        big_endian-front w s t there,
        row_record-front,
        le-ltb (length (s ++ t)) (2 * w) (omega (arith, longer, there)),
        le-ltb (length s) (2 * w) there,
      )

-- a row that is not refused is there
pub image_row_number-stands : (w r : ℕ) (s : List ℕ) (room : ℕ) → image_row_number w r s room ≡ 0 → RowStands w r (length s)
unfolding image_row_number
image_row_number-stands w r s room e = before_pixels-zero w r (length s) (or_else-zero-left (before_pixels w r (length s)) _ e)

-- ---- records in order
pub in_order-same : (f g : ℕ → List ℕ) (k r : ℕ) → ((i : ℕ) → r ≤ i → i < r + k → f i ≡ g i) → in_order f r k ≡ in_order g r k
unfolding in_order
in_order-same f g zero r same = refl
in_order-same f g (suc k) r same =
    rw (
      same r (omega arith) (omega arith),
      in_order-same f g k (suc r) (λ i least most. same i (omega (arith, least)) (omega (arith, most))),
    )

pub in_order-last : (f : ℕ → List ℕ) (k r : ℕ) → in_order f r (suc k) ≡ in_order f r k ++ f (r + k)
unfolding in_order
in_order-last f zero r = let e : r + 0 ≡ r = omega arith in rw e (append-nil (f r))
in_order-last f (suc k) r =
    let e : suc r + k ≡ r + suc k = omega arith in
    ap (f r ++◌) (in_order-last f k (suc r) ∙ rw e) ∙ sym (append_assoc (f r) (in_order f (suc r) k) (f (r + suc k)))

-- ---- where no row before row r is refused, and r is refused or the last: what the calls come to
module _ (lends : ℕ → List ℕ) (w n : ℕ) (image : List ℕ) (r : ℕ) (within : r ≤ n)
    (right : (i : ℕ) → i < r → row_number_at lends w image i ≡ 0)
    (stops : r < n → row_number_at lends w image r ≡ 0 → ⊥) where
  abbrev x : RowsWritten
  x = row_calls lends w n 0 image

  fault : FirstFault (row_number_at lends w image) n x.rows x.number
  fault = row_calls-fault lends w image n

  pub row_calls-rows : x.rows ≡ r
  row_calls-rows = fault-place fault r within right stops

  pub row_calls-records : x.bytes ≡ in_order (row_record_at w image) 0 r
  row_calls-records = rw row_calls-rows at (row_calls-bytes lends w image n)

  pub row_calls-number : r < n → x.number ≡ row_number_at lends w image r
  row_calls-number = fault-number fault r within right stops

  pub row_calls-none : r ≡ n → x.number ≡ 0
  row_calls-none = fault-none fault r within right stops
