-- `draw_sheet::draw::put_part` meets its contract: the row is put into memory, summed, and made a part of the file. Assumes nothing.
use Rattle.std.proofs.Common.{◌/◌, arith}
use Rattle.draw_sheet.specs.Drawn.Laws.{row-begins, row_put}
use Rattle.draw_sheet.proofs.draw.put_part.Goals as goal

pub slice_bounds-add_row-count : goal.slice_bounds-add_row-count
slice_bounds-add_row-count c = let begins = row-begins (c.args.y / c.args.scene.view.times) c.put_picture_row-end.ensures.put in
    omega (arith, begins)

pub slice_bounds-add_row-start : goal.slice_bounds-add_row-start
slice_bounds-add_row-start c = let begins = row-begins (c.args.y / c.args.scene.view.times) c.put_picture_row-end.ensures.put in
    omega (arith, begins, c.put_picture_row-end.ensures.most, c.put_picture_row-end.auto, c.requires.in_bounds)

pub overflow_sub-end : goal.overflow_sub-end
overflow_sub-end c = let begins = row-begins (c.args.y / c.args.scene.view.times) c.put_picture_row-end.ensures.put in
    omega (arith, begins)

pub returns-clause-put : goal.returns-clause-put
returns-clause-put c = λ ys is.
    row_put c.put_picture_row-end.ensures.put (omega arith) c.add_row-sums.ensures c.put_row-count.ensures.row ys (rw c.ends_with-there.ensures is)
