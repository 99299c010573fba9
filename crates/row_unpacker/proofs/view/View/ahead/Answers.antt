-- `view::View::ahead` shows the rest of the stream: the window is peeked in the whole words, and the bits left are counted. Assumes nothing.
use Prim.Native.Nat.{◌*◌, ◌/◌}
use native.Mathlib.Omega.{arith}
use mathlib.Core.Path.{sym}
use lib.ListN.{length}
use lib.Seq.{length-take-le}
use Rattle.row_unpacker.proofs.view.Laws.{seen-stream}
use Rattle.row_unpacker.proofs.view.View.ahead.Goals as goal

pub slice_bounds-peek32-end : goal.slice_bounds-peek32-end
slice_bounds-peek32-end c = sym (length-take-le (4 * (length c.args.words.now / 4)) c.args.words.now (omega arith))

pub returns : goal.returns
returns c = seen-stream c.args.words.now c.args.at c.peek32-window.result c.bits_left.result c.peek32-window.ensures
    c.bits_left.ensures
