-- `sheet_picture::row::put_right` meets its contract: no map, a row of it, or nothing below it. Assumes nothing.
use Rattle.sheet_picture.specs.View.Laws.{right-map, right-below, right-most}
use native.Mathlib.Omega.{arith}
use Rattle.sheet_picture.proofs.row.put_right.Goals as goal

pub returns-then-y-times : goal.returns-then-y-times
returns-then-y-times c = let put =
    right-map c.args.counts.now c.beside_times-times.result c.args.y (omega arith) c.put_run-next.ensures c.args.view.beside
    c.if-view-eq0.false c.if-y-times.true c.put_map.ensures.one c.put_map.ensures.none in
    let whole = rw c.beside_times-times.ensures at put in
    record { put = whole; most = omega (arith, whole.next, right-most c.requires.view_fits c.args.y) }

pub returns : goal.returns
returns c = let put =
    right-below c.args.counts.now c.beside_times-times.result c.args.y (omega arith) c.put_run-next.ensures
    c.args.view.beside c.if-view-eq0.false c.if-y-times.false
    c.put_run.ensures in
    let whole = rw c.beside_times-times.ensures at put in
    record { put = whole; most = omega (arith, whole.next, right-most c.requires.view_fits c.args.y) }
