-- `sheet_writer::record::put_record` meets its contract: each kind by its own function, and a code of none of them refused.
-- Assumes nothing.
use native.Mathlib.Omega.{arith}
use mathlib.Core.Path.{ap, ◌∙◌}
use Rattle.answer.specs.Refusal.{refusal_number}
use Rattle.sheet_format.specs.Context.{context_of}
use Rattle.sheet_format.specs.Writing.{write_number, not_written}
use Rattle.sheet_writer.proofs.Frame.{err-answer, refused-number}
use Rattle.sheet_writer.proofs.record.put_record.Goals as goal

pub returns-in_err-try_from : goal.returns-in_err-try_from
unfolding write_number
returns-in_err-try_from c =
    refused-number c.args.kind (record { row = c.args.row }) (context_of c.args.table.now c.args.state) c.args.content.now
    c.args.out.now 15
    (rw c.in_err-try_from.ensures.1) (λ e. omega arith)
    (err-answer c.from_residual.result c.from_residual.ensures.1
    ∙ ap (λ e. not_written (refusal_number e)) c.in_err-try_from.ensures.0)
