-- `delta_reader::put::put_values` meets its contract. Assumes nothing.
use lib.ListN.{drop}
use Rattle.delta_format.specs.Numbers.{elements_of}
use Rattle.delta_reader.specs.Puts.{PuttingValues}
use Rattle.delta_reader.proofs.put.put_values.Given as goal

abbrev pub invariant-loop-i : goal.invariant-loop-i
invariant-loop-i l = PuttingValues l.initial.row l.initial.marks l.at (drop l.from.0 (elements_of l.value.bits l.value.bytes.now)) l.count l.i l.row l.marks
