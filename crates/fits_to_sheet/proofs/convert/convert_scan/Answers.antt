-- `fits_to_sheet::convert::convert_scan` is safe: the header is refused, or the first record is written. Assumes nothing.
use native.Mathlib.Omega.{arith}
use Rattle.fits_to_sheet.specs.Scan.Calls.{answered-refused, answered-stands, answered-first, answered-within}
use Rattle.fits_to_sheet.proofs.convert.convert_scan.Goals as goal

pub end-requires : goal.end-requires
end-requires c = answered-refused _ _ (omega arith) c.fits_header-image.ensures c.if-number-ne0.true

pub shared_ref_as_front-print_table : goal.shared_ref_as_front-print_table
shared_ref_as_front-print_table c =
    omega (arith, answered-within c.args.header.now c.args.out.now (omega arith) c.fits_header-image.ensures c.requires c.if-number-ne0.false)

pub print_table-requires : goal.print_table-requires
print_table-requires c = answered-first _ _ (omega arith) c.fits_header-image.ensures c.requires c.if-number-ne0.false

pub invariant_of-convert_image : goal.invariant_of-convert_image
invariant_of-convert_image c =
    record { stands = answered-stands c.args.header.now c.args.out.now (omega arith) c.fits_header-image.ensures c.requires c.if-number-ne0.false }
