-- `pgm_to_sheet::convert::convert_input` is safe: the table is refused, or it is accepted. Assumes nothing.
use Rattle.std.proofs.Common.{arith}
use Rattle.answer.specs.Refusal.Laws.{refusal_not_done}
use Rattle.pgm_to_sheet.specs.Picture.Calls.{table-refused}
use Rattle.pgm_to_sheet.proofs.convert.convert_input.Goals as goal

pub end-requires : goal.end-requires
end-requires c = let refusal = c.in-Err.refusal in
    rw c.number.ensures (table-refused c.args.table.now c.in-Err.ensures (λ z. omega (arith, refusal_not_done refusal)))
