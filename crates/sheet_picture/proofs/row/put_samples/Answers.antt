-- `sheet_picture::row::put_samples` meets its contract: once each is each once. Assumes nothing.
use mathlib.Core.List.{map}
use lib.ListN.{take}
use Rattle.bitstream.specs.Bits.{halves_of}
use Rattle.sheet_picture.specs.Colour.{height_index}
use Rattle.sheet_picture.specs.Grid.Laws.{widened_once}
use Rattle.sheet_picture.specs.View.{range_of}
use Rattle.sheet_picture.proofs.row.put_samples.Goals as goal

pub returns-then-view-eq1 : goal.returns-then-view-eq1
returns-then-view-eq1 c = let samples = map (height_index (range_of c.args.view)) (take c.args.n (halves_of c.args.pixels.now)) in
    rw (c.if-view-eq1.true, widened_once samples) c.put_each.ensures
