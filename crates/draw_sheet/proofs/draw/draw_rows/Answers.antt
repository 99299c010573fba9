use Rattle.std.proofs.Common.{◌/◌, arith, refl}
use Rattle.sheet_stream.specs.Progress.Laws.{fits-first}
use Rattle.draw_sheet.specs.Ahead.Laws.{read_first, onward-later}
use Rattle.draw_sheet.specs.Drawn.Laws.{row-later, drawn-first, drawn-onward, drawn-next, row_out, end-out}
use Rattle.draw_sheet.proofs.draw.draw_rows.Goals as goal

pub loop-y-init : goal.loop-y-init
loop-y-init c = rw c.none-ahead.ensures
    (record {
      fits = fits-first c.args.memory.now.table;
      within = omega arith;
      held = omega arith;
      to =
          drawn-first
          (read_first c.args.memory.now.bytes c.args.memory.now.table c.args.memory.now.content (0 / c.args.scene.view.times) refl)
          c.begin_sums-sums.ensures;
      next = c.requires.next_value;
    })

pub print_row-requires-clause-row_out : goal.print_row-requires-clause-row_out
print_row-requires-clause-row_out c =
    let drawn = drawn-onward c.loop-y.invariant.to (c.in_ok-ahead.ensures.onward c.loop-y.invariant.to.read) in
    rw c.loop-y.invariant.next (row_out drawn c.in_ok-ahead.ensures.known c.put_part-part.ensures.put c.requires.view_made)

pub loop-y-preserved : goal.loop-y-preserved
loop-y-preserved c =
    let drawn = drawn-onward c.loop-y.invariant.to (c.in_ok-ahead.ensures.onward c.loop-y.invariant.to.read) in
    let next = drawn-next drawn c.in_ok-ahead.ensures.known c.put_part-part.ensures.put in
    let later = row-later c.loop-y.y c.args.scene.view.times (omega (arith, c.requires.view_made.fits.some)) in
    record {
      fits = c.in_ok-ahead.ensures.fits;
      within = c.in_ok-ahead.ensures.within;
      held = c.in_ok-ahead.ensures.held;
      to = drawn-onward next (onward-later next.read later);
      next = omega (arith, c.in_ok-drawn.ensures, c.loop-y.invariant.next);
    }

pub print_end-ended-requires-clause-end_out : goal.print_end-ended-requires-clause-end_out
print_end-ended-requires-clause-end_out c =
    let height = c.picture_height-height.ensures c.args.scene.counts.now in
    end-out c.requires.view_made c.loop-y.invariant.to (omega (arith, height)) c.put_end-n.ensures.put
