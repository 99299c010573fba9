-- `sheet_reader::frame::read_body` meets its contract: each kind goes to its own function. Assumes nothing.
use mathlib.Core.Path.{ap}
use Rattle.sheet_format.specs.Context.{context_of}
use Rattle.sheet_format.specs.Kinds.{kind_code}
use Rattle.sheet_format.specs.Context.Laws.{state_of-context_of}
use Rattle.sheet_reader.proofs.frame.Laws.{table-leaves}
use Rattle.sheet_reader.proofs.frame.read_body.Goals as goal

pub returns-in-Table : goal.returns-in-Table
returns-in-Table c = table-leaves (ap kind_code c.in-Table.is)
    (c.read_table.ensures (context_of c.args.table.now c.args.state) (state_of-context_of c.args.table.now c.args.state))
