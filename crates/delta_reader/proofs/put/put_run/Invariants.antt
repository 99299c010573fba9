-- `delta_reader::put::put_run` meets its contract. Assumes nothing.
use Rattle.delta_reader.specs.Puts.{PuttingAlike}
use Rattle.delta_reader.proofs.put.put_run.Given as goal

abbrev pub invariant-loop-i : goal.invariant-loop-i
invariant-loop-i l = PuttingAlike l.v l.mark l.initial.row l.initial.marks l.at l.count l.i l.row l.marks
