-- The last lines of two refused sheets, by computation. Assumes nothing.
use Rattle.std.specs.Prelude.{◌≡◌, refl, []}
use Rattle.std.proofs.Common.{◌∙◌}
use Rattle.sheet_format.specs.Sheet.{sheet_read, stored_rows}
use Rattle.sheet_format.specs.Cases.Places.{bad_sheet, sheet-place-right}
use Rattle.text.specs.Text.{ascii, decimal, spelled}
use Rattle.sheet_listing.specs.Line.{last_line}
use Rattle.sheet_listing.specs.Listing.{last_of}
use Rattle.sheet_listing.specs.Listing.Laws.{last_of-place}

-- a row that begins with no string after 18 bits
pub bit-right : last_of (sheet_read bad_sheet) ≡ ascii "refused 7 at record 2 bit 18\n"
unfolding decimal spelled
bit-right =
    last_of-place (sheet_read bad_sheet) (rw sheet-place-right.0)
    ∙ rw (sheet-place-right.0, sheet-place-right.1, sheet-place-right.2)

-- no bytes at all
pub no-bit-right : last_of (sheet_read []) ≡ ascii "refused 16 at record 0\n"
unfolding sheet_read last_line stored_rows decimal spelled
no-bit-right = refl
