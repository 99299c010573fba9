-- What is not looked at changes no answer: of a row nothing after its bytes, of an image nothing after its last row. Assumes
-- nothing.
use Rattle.std.specs.Prelude.{ℕ, zero, suc, ◌-◌, ◌*◌, ◌≡◌, refl, List, length, take, drop, ltb}
use Rattle.std.proofs.Common.{arith, sym, ap, ◌∙◌, take-take, take_all, length-take-le, ltb-true, ltb-false, le-ltb}
use Rattle.row_format.specs.Lists.Laws.{by-test, drop-take}
use Rattle.fits_format.specs.Header.{header_read}
use Rattle.fits_format.specs.Image.{row_record, before_pixels, image_row_number, image_row}
use Rattle.fits_format.specs.Image.Laws.{big_endian-take}
use Rattle.fits_format.specs.Conversion.{row_calls, conversion}

-- of a row, its own bytes
module _ (w r : ℕ) (s : List ℕ) where
  there-take : ltb (length (take (2 * w) s)) (2 * w) ≡ ltb (length s) (2 * w)
  there-take =
      by-test (ltb (length s) (2 * w))
      (λ e. rw (take_all (2 * w) s (omega (arith, ltb-true (length s) (2 * w) e))))
      (λ e.
      let size = length-take-le (2 * w) s (ltb-false (length s) (2 * w) e) in
      rw (e, size) (le-ltb (2 * w) (2 * w) (omega arith)))

  number-take : (m : ℕ) → image_row_number w r (take (2 * w) s) m ≡ image_row_number w r s m
  unfolding image_row_number before_pixels row_record
  number-take m = rw (there-take, big_endian-take w s)

  pub image_row-take : (m : List ℕ) → image_row w r (take (2 * w) s) m ≡ image_row w r s m
  unfolding image_row row_record
  image_row-take m = rw (number-take (length m), big_endian-take w s)

pub image_row-alike : (w r : ℕ) (s t m : List ℕ) → take (2 * w) s ≡ take (2 * w) t → image_row w r s m ≡ image_row w r t m
image_row-alike w r s t m e = sym (image_row-take w r s m) ∙ rw e (image_row-take w r t m)

-- of n rows, theirs
first-take : (w n : ℕ) (s : List ℕ) → take (2 * w) (take (2 * w * suc n) s) ≡ take (2 * w) s
first-take w n s = take-take (2 * w) (2 * w * suc n) s (omega arith)

rest-take : (w n : ℕ) (s : List ℕ) → drop (2 * w) (take (2 * w * suc n) s) ≡ take (2 * w * n) (drop (2 * w) s)
rest-take w n s =
    let e : 2 * w * suc n - 2 * w ≡ 2 * w * n = omega arith in
    drop-take (2 * w) (2 * w * suc n) s ∙ ap (λ (k : ℕ). take k (drop (2 * w) s)) e

pub row_calls-alike : (lends : ℕ → List ℕ) (w n r : ℕ) (s t : List ℕ) → take (2 * w * n) s ≡ take (2 * w * n) t
    → row_calls lends w n r s ≡ row_calls lends w n r t
unfolding row_calls
row_calls-alike lends w zero r s t e = refl
row_calls-alike lends w (suc n) r s t e =
    let first : take (2 * w) s ≡ take (2 * w) t = sym (first-take w n s) ∙ ap (take (2 * w)) e ∙ first-take w n t in
    let rest : take (2 * w * n) (drop (2 * w) s) ≡ take (2 * w * n) (drop (2 * w) t) =
    sym (rest-take w n s) ∙ ap (drop (2 * w)) e ∙ rest-take w n t in
    rw (image_row-alike w r s t (lends r) first, row_calls-alike lends w n (suc r) (drop (2 * w) s) (drop (2 * w) t) rest)

-- of a scan, what the header's call looks at, and the image
pub conversion-alike : (m : List ℕ) (lends : ℕ → List ℕ) (s t : List ℕ) → header_read t m ≡ header_read s m
    → let h = (header_read s m).answer in
    take (2 * h.width * h.rows) (drop h.start s) ≡ take (2 * h.width * h.rows) (drop h.start t)
    → conversion m lends s ≡ conversion m lends t
unfolding conversion
conversion-alike m lends s t header image =
    let h = (header_read s m).answer in
    rw (header, row_calls-alike lends h.width h.rows 0 (drop h.start s) (drop h.start t) image)
