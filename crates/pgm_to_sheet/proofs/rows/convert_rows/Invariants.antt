-- `pgm_to_sheet::rows::convert_rows` meets its contract. The loop's invariant: for some bytes r rows were taken, none of which is refused.
-- Assumes nothing.
use Rattle.pgm_to_sheet.specs.Picture.{LinesBefore}
use Rattle.pgm_to_sheet.proofs.rows.convert_rows.Given as goal

abbrev pub invariant-loop-r : goal.invariant-loop-r
invariant-loop-r l = LinesBefore l.picture.front.now l.r
