-- That 7178 bytes are room for any row's record, so that 5 is never given for one. Assumes nothing.
use Rattle.std.specs.Prelude.{ℕ, ◌≤◌, ◌≡◌, List, length}
use Rattle.std.proofs.Common.{arith, ◌∙◌}
use Rattle.std.proofs.lemmas.List.{length-map}
use Rattle.answer.specs.Outcome.{refuse_if}
use Rattle.answer.specs.Outcome.Laws.{or_else-same, less_number-none}
use Rattle.row_format.specs.Lists.{any}
use Rattle.row_format.specs.Plain.{plain_bytes}
use Rattle.code_table.specs.Plain.Laws.{max_item_bits-plain}
use Rattle.fits_format.specs.Heights.{heights_record}
use Rattle.fits_format.specs.Heights.Room.{length-heights_record}
use Rattle.fits_format.specs.Image.{twos_complement, big_endian, signed_pixels, out_of_range, height_of, row_heights, row_record, before_pixels, image_row_number}
use Rattle.fits_format.specs.Image.Laws.{length-big_endian}
use Rattle.fits_format.specs.Image.Call.{before_pixels-zero}

-- 14 bits a pixel at most
pub length-row_record : (w r : ℕ) (s : List ℕ) → w ≤ 4096 → length (row_record w r s) ≤ 7178
unfolding row_record heights_record
length-row_record w r s narrow =
    let heights : length (row_heights w s) ≡ w =
    length-map (signed_pixels w s) height_of ∙ length-map (big_endian w s) twos_complement ∙ length-big_endian w s in
    length-heights_record plain_bytes 14 (omega (arith, max_item_bits-plain)) r (row_heights w s) (omega (arith, narrow, heights))

-- more room changes no row's number
pub image_row_number-room : (w r : ℕ) (s : List ℕ) (room : ℕ) → 7178 ≤ room
    → image_row_number w r s room ≡ image_row_number w r s 7178
unfolding image_row_number
image_row_number-room w r s room enough =
    or_else-same (before_pixels w r (length s)) _ _
    (λ e. or_else-same (refuse_if (any out_of_range (signed_pixels w s)) 4) _ _
    (λ h.
    let most = length-row_record w r s (before_pixels-zero w r (length s) e).narrow in
    less_number-none room (length (row_record w r s)) 5 (omega (arith, most, enough))
    ∙ rw (less_number-none 7178 (length (row_record w r s)) 5 most)))
