-- `sheet_to_pgm::rows::write_gap` meets its contract: before each turn the lines before number `counter` are out. Assumes nothing.
use Rattle.std.proofs.Common.{◌≡◌}
use Rattle.sheet_to_pgm.proofs.rows.write_gap.Given as goal

abbrev pub invariant-loop : goal.invariant-loop
invariant-loop l = l.out.next ≡ l.counter
