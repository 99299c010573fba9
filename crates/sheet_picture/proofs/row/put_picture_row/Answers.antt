-- `sheet_picture::row::put_picture_row` meets its contract: what is left, then what is right. Assumes nothing.
use native.Mathlib.Omega.{arith}
use mathlib.Core.List.{[]}
use Rattle.bitstream.specs.Bits.{halves_of}
use Rattle.text.specs.Put.Laws.{put-put}
use Rattle.sheet_picture.specs.Grid.{picture_row}
use Rattle.sheet_picture.specs.Grid.Laws.{length-left}
use Rattle.sheet_picture.specs.View.{look_of, extent_of, heights_by}
use Rattle.sheet_picture.specs.View.Laws.{wide-few}
use borrow.Author.Rules.{rules}
use Rattle.sheet_picture.proofs.row.put_picture_row.Goals as goal

pub put_right-requires : goal.put_right-requires
put_right-requires c = let wide = wide-few c.args.view.width c.args.view.times c.requires.view_fits.wide c.requires.view_fits.few in
    let hs = heights_by c.args.there (halves_of c.args.pixels.now) in
    let place = length-left (look_of c.args.view []) (extent_of c.args.view) hs c.args.y in
    record { at_in_bounds = omega (arith, wide, place, c.put_left-next.ensures.next); view_fits = search rules }

pub returns : goal.returns
unfolding picture_row
returns c = let wide = wide-few c.args.view.width c.args.view.times c.requires.view_fits.wide c.requires.view_fits.few in
    let hs = heights_by c.args.there (halves_of c.args.pixels.now) in
    let place = length-left (look_of c.args.view []) (extent_of c.args.view) hs c.args.y in record { put = λ ys e. rw e (put-put (omega arith) c.put_left-next.ensures c.put_right.ensures.put); most = omega (arith, wide, place, c.put_left-next.ensures.next, c.put_right.ensures.most) }
