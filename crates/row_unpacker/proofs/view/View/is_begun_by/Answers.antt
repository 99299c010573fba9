-- `view::View::is_begun_by`: a codeword longer than the rest does not begin it; any other does where its bits are the window's
-- lowest. Assumes nothing.
use native.Mathlib.Omega.{arith}
use Rattle.row_unpacker.proofs.search.Laws.{begun_by-short, begun_by-low}
use Rattle.row_unpacker.proofs.view.View.is_begun_by.Goals as goal

pub returns-then-self-len : goal.returns-then-self-len
returns-then-self-len c = begun_by-short c.args.word c.args.self (omega arith)

pub returns : goal.returns
returns c = begun_by-low c.args.word c.args.self c.low_bits.result c.low_bits-2.result (omega arith) c.low_bits.ensures
    c.low_bits-2.ensures
