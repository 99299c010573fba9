-- `fits_to_sheet::rows::put_row` meets its contract: the row call answers for the row. Assumes nothing.
use native.Mathlib.Omega.{arith}
use Rattle.fits_to_sheet.specs.Scan.Calls.{row-written, row-refused}
use Rattle.fits_to_sheet.proofs.rows.put_row.Goals as goal

pub returns-then-answer-eq0 : goal.returns-then-answer-eq0
returns-then-answer-eq0 c = row-written _ _ _ _ (omega arith) c.fits_row-answer.ensures c.if-answer-eq0.true

pub returns : goal.returns
returns c = row-refused _ _ _ _ (omega arith) c.fits_row-answer.ensures c.if-answer-eq0.false
