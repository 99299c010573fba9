-- `pgm_reader::row::write_row` meets its contract. Assumes nothing.
use Prim.Native.Nat.{◌*◌}
use native.Mathlib.Omega.{arith}
use mathlib.Core.Path.{sym, ◌∙◌}
use lib.ListN.{length}
use lib.Seq.{length-take-le}
use Rattle.pgm_format.specs.Conversion.Laws.{before_samples-zero, pgm_row-there}
use Rattle.pgm_reader.proofs.row.write_row.Goals as goal

pub copy_pixels-requires : goal.copy_pixels-requires
copy_pixels-requires c = let row = before_samples-zero c.args.width (length c.args.samples.now) c.requires.samples_value in
    record { width_bound = row.narrow; width_in_bounds = row.there; width_in_bounds_2 = omega (arith, row.narrow) }

pub overflow_mul-pixels : goal.overflow_mul-pixels
overflow_mul-pixels c = let row = before_samples-zero c.args.width (length c.args.samples.now) c.requires.samples_value in
    record { fits = omega (arith, row.narrow) }

pub slice_bounds-pixels-end : goal.slice_bounds-pixels-end
slice_bounds-pixels-end c = let row = before_samples-zero c.args.width (length c.args.samples.now) c.requires.samples_value in
    omega (arith, row.narrow, c.copy_pixels.auto)

pub slice_bounds-write_packed-end : goal.slice_bounds-write_packed-end
slice_bounds-write_packed-end c = sym (length-take-le (2 * c.args.width) c.copy_pixels.new.pixels (omega (arith, (before_samples-zero c.args.width (length c.args.samples.now) c.requires.samples_value).narrow, c.copy_pixels.auto)))

pub returns : goal.returns
returns c = rw c.copy_pixels.ensures at c.write_packed.ensures
    ∙ sym (pgm_row-there c.args.width c.args.row c.args.table.now c.args.state c.args.samples.now c.args.out.now c.requires.samples_value)
