-- `fits_reader::row::write_row` meets its contract: what the record writer answers for the pixels is the row's answer. Assumes
-- nothing.
use native.Mathlib.Omega.{arith}
use Prim.Native.Nat.{◌*◌}
use mathlib.Core.Path.{sym, ap, ◌∙◌}
use lib.ListN.{length}
use lib.Seq.{length-take-le}
use Rattle.bitstream.specs.Bits.{Below}
use Rattle.row_format.specs.Calls.{checked}
use Rattle.code_table.specs.Plain.Laws.{plain-checked}
use Rattle.fits_format.specs.Image.Call.{before_pixels-zero, image_row-given}
use Rattle.fits_reader.proofs.row.write_row.Goals as goal

pub copy_pixels-requires : goal.copy_pixels-requires
copy_pixels-requires c = let row = before_pixels-zero c.args.width c.args.row (length c.args.image.now) c.requires in
    record { width_bound = row.narrow; width_in_bounds = row.there; width_in_bounds_2 = omega (arith, row.narrow) }

pub overflow_mul-pixels : goal.overflow_mul-pixels
overflow_mul-pixels c = let row = before_pixels-zero c.args.width c.args.row (length c.args.image.now) c.requires in
    record { fits = omega (arith, row.narrow) }

pub slice_bounds-pixels-end : goal.slice_bounds-pixels-end
slice_bounds-pixels-end c = let row = before_pixels-zero c.args.width c.args.row (length c.args.image.now) c.requires in
    omega (arith, row.narrow, c.copy_pixels.auto)

pub slice_bounds-write_packed-end : goal.slice_bounds-write_packed-end
slice_bounds-write_packed-end c = sym (length-take-le (2 * c.args.width) c.copy_pixels.new.pixels (omega (arith, (before_pixels-zero c.args.width c.args.row (length c.args.image.now) c.requires).narrow, c.copy_pixels.auto)))

-- the table is the plain one, which is known to be accepted
pub write_packed-written-requires : goal.write_packed-written-requires
write_packed-written-requires c = λ some. ap checked c.plain_bytes-table.ensures ∙ plain-checked

pub returns : goal.returns
returns c = let bytes : Below 256 c.args.image.now = record { below = λ i. (c.type_inv.image i).fits } in
    image_row-given c.args.width c.args.row c.args.image.now c.args.out.now bytes (before_pixels-zero c.args.width c.args.row (length c.args.image.now) c.requires)
    c.plain_bytes-table.ensures c.copy_pixels.ensures c.write_packed-written.ensures
