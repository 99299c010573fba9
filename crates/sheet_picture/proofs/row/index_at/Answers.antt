-- `sheet_picture::row::index_at` meets its contract: the table has the index, or the number is past every range. Assumes nothing.
use native.Mathlib.Omega.{arith}
use mathlib.Core.Path.{sym}
use Rattle.sheet_picture.specs.Colour.Laws.{index-past}
use Rattle.sheet_picture.specs.View.{range_of}
use Rattle.sheet_picture.proofs.row.index_at.Goals as goal

pub returns : goal.returns
returns c = let range = range_of c.args.view in
    sym (index-past range c.args.h (omega (arith, c.requires.low, c.requires.high)) c.requires.high (omega arith))
