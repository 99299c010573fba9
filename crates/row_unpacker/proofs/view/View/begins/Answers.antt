-- `view::View::begins`: a rest longer than the codeword is no beginning of it; any other is where the codeword's lowest
-- bits are the window. Assumes nothing.
use native.Mathlib.Omega.{arith}
use Rattle.row_unpacker.proofs.search.Laws.{begins-long, begins-low}
use Rattle.row_unpacker.proofs.view.View.begins.Goals as goal

pub returns-then-word-left : goal.returns-then-word-left
returns-then-word-left c = begins-long c.args.word c.args.self (omega arith)

pub returns : goal.returns
returns c = begins-low c.args.word c.args.self c.low_bits.result c.requires (omega arith) c.low_bits.ensures
