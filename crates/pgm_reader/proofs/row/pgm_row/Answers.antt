-- `pgm_reader::row::pgm_row` meets its contract. Assumes nothing.
use Rattle.std.proofs.Common.{arith, sym, ◌∙◌}
use Rattle.answer.specs.Refusal.Laws.{refusal_not_done}
use Rattle.pgm_format.specs.Conversion.Laws.{pgm_row-before}
use Rattle.pgm_reader.proofs.row.pgm_row.Goals as goal

pub returns-in-Err : goal.returns-in-Err
returns-in-Err c =
    rw (c.refused.ensures, c.number.ensures, c.in-Err.ensures)
    (sym (pgm_row-before c.args.width c.args.row c.args.table.now c.args.state c.args.samples.now c.args.out.now
    (λ e. absurd (omega (arith, refusal_not_done c.in-Err.refusal, c.in-Err.ensures ∙ e)))))
