use Prim.Native.Nat.{ℕ}
use native.Mathlib.Omega.{arith}
use mathlib.Core.Path.{◌≡◌}
use lib.ListN.{length-take}
use Rattle.fits_to_sheet.specs.Scan.Calls.{all-ended, row-ended, before_more, row_next}
use Rattle.fits_to_sheet.proofs.rows.convert_rows.Goals as goal

pub print_row-requires : goal.print_row-requires
print_row-requires c =
    row_next c.args.scan.stands c.loop-r.invariant c.loop-r-test.true
    (omega (arith, length-take {A = ℕ}, c.in_ok-held.ensures.ok, c.row_span-span.ensures.spans)) c.in-Ok.ensures

pub returns-in-Err : goal.returns-in-Err
returns-in-Err c = (
  omega (arith, length-take {A = ℕ}, c.in_ok-held.ensures.ok, c.row_span-span.ensures.within),
  row-ended c.args.scan.stands c.loop-r.invariant c.loop-r-test.true
      (omega (arith, length-take {A = ℕ}, c.in_ok-held.ensures.ok, c.row_span-span.ensures.spans)) c.in-Err.ensures,
)

pub loop-r-preserved : goal.loop-r-preserved
loop-r-preserved c =
    before_more c.args.scan.stands c.loop-r.invariant c.loop-r-test.true
    (omega (arith, length-take {A = ℕ}, c.in_ok-held.ensures.ok, c.row_span-span.ensures.spans)) c.in-Ok.ensures

pub returns : goal.returns
returns c =
    let all : c.loop-r.r ≡ c.args.scan.image.rows = omega arith in
    rw all at (all-ended c.args.scan.stands c.loop-r.invariant c.loop-r-test.false)
