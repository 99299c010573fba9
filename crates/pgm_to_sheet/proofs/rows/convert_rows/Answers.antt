use native.Mathlib.Omega.{arith}
use mathlib.Core.Path.{◌≡◌}
use Rattle.pgm_to_sheet.specs.Picture.Calls.{stands-fits, before-none, all-ended, row-ended, before_more, row_next}
use Rattle.pgm_to_sheet.proofs.rows.convert_rows.Goals as goal

pub loop-r-init : goal.loop-r-init
loop-r-init c = before-none c.args.picture.stands

pub row_place-place-requires : goal.row_place-place-requires
row_place-place-requires c = omega (arith, (stands-fits c.args.picture.stands).rows-most)

pub print_row-requires : goal.print_row-requires
print_row-requires c =
    row_next c.args.picture.stands c.loop-r.invariant c.loop-r-test.true
    (rw (c.row_place-place.ensures, c.span-span.ensures.span) at c.in_ok-held.ensures.held) c.in-Ok.ensures

pub returns-in-Err : goal.returns-in-Err
returns-in-Err c = (
  omega (arith, c.in_ok-held.ensures.within, c.span-span.ensures.within),
  row-ended c.args.picture.stands c.loop-r.invariant c.loop-r-test.true
      (rw (c.row_place-place.ensures, c.span-span.ensures.span) at c.in_ok-held.ensures.held) c.in-Err.ensures,
)

pub loop-r-preserved : goal.loop-r-preserved
loop-r-preserved c =
    before_more c.args.picture.stands c.loop-r.invariant c.loop-r-test.true
    (rw (c.row_place-place.ensures, c.span-span.ensures.span) at c.in_ok-held.ensures.held) c.in-Ok.ensures

pub returns : goal.returns
returns c =
    let all : c.loop-r.r ≡ c.args.picture.header.rows = omega arith in
    rw all at (all-ended c.args.picture.stands c.loop-r.invariant c.loop-r-test.false)
