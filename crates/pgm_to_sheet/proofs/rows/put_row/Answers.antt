-- `pgm_to_sheet::rows::put_row` meets its contract: the row call answers for the row. Assumes nothing.
use native.Mathlib.Omega.{arith}
use Rattle.pgm_to_sheet.specs.Picture.Calls.{row-written, row-refused}
use Rattle.pgm_to_sheet.proofs.rows.put_row.Goals as goal

pub returns-then-written-eq0 : goal.returns-then-written-eq0
returns-then-written-eq0 c =
    row-written c.args.picture.stands c.args.r c.requires c.args.held.now c.args.out.now (record { below = λ i. (c.type_inv.held i).fits })
    (omega arith) c.pgm_row-written.ensures c.if-written-eq0.true

pub returns : goal.returns
returns c =
    row-refused c.args.picture.stands c.args.r c.requires c.args.held.now c.args.out.now (record { below = λ i. (c.type_inv.held i).fits })
    (omega arith) c.pgm_row-written.ensures c.if-written-eq0.false
