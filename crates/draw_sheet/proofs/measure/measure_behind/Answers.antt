-- `draw_sheet::measure::measure_behind` meets its contract. Assumes nothing.
use Rattle.std.proofs.Common.{arith}
use Rattle.draw_sheet.proofs.measure.measure_behind.Goals as goal

pub returns : goal.returns
returns c = record { rows = c.in_ok-claimed.claimed; claims = c.in_ok-claimed.ensures.claims; width = omega (arith, c.max.ensures); height = omega (arith, c.max-2.ensures) }
