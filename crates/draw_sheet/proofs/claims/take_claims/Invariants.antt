-- `draw_sheet::claims::take_claims` meets its contract: before each turn whole records were taken that claim `height` rows, and the
-- bytes that are held of the next one are at the front of the memory (`Claiming`). Assumes nothing.
use Rattle.std.proofs.Common.{◌≤◌, take}
use Rattle.draw_sheet.specs.Measure.Behind.{Claiming}
use Rattle.draw_sheet.proofs.claims.take_claims.Given as goal

abbrev pub invariant-loop : goal.invariant-loop
invariant-loop l =
    record {
      held : l.held ≤ 32778;
      most : l.height ≤ 65536;
      claiming : Claiming (take l.taken l.initial.memory.bytes) (take l.held l.memory.bytes) l.height;
    }
