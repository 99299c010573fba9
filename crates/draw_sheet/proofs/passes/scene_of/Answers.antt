-- `draw_sheet::passes::scene_of` meets its contract: the view is as large as the sheet that was measured. Assumes nothing.
use Rattle.draw_sheet.proofs.passes.scene_of.Goals as goal

pub returns : goal.returns
returns c = let side = c.requires.side_shown in
    rw (c.beside.ensures, c.most.ensures)
    (record {
      fits = record {
        some = c.args.wish.some;
        few = c.args.wish.few;
        wide = c.args.measured.narrow;
        tall = c.args.measured.low;
        map = λ e. side.room;
        most = side.most;
      };
      order = c.args.wish.grey.order;
      high = c.args.wish.grey.most;
      measured = c.requires.measures;
      shown = side.shown;
    })
