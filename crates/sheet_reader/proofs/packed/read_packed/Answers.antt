-- `sheet_reader::packed::read_packed` meets its contract: not whole words, the fields or the row refused, or its pixels
-- are kept. Assumes nothing.
use native.Mathlib.Omega.{arith}
use mathlib.Core.Path.{refl}
use Rattle.answer.specs.Refusal.Laws.{refusal_not_done}
use Rattle.sheet_reader.proofs.answers.Laws.{err-answer, refusal-answer, into-answer}
use Rattle.sheet_reader.proofs.packed.Laws.{packed-not-words, packed-misplaced, packed-refused, packed-accepted, packed-few, packed-fits, packed-held}
use Rattle.sheet_reader.proofs.packed.read_packed.Goals as goal

pub returns-then-body-ne0 : goal.returns-then-body-ne0
returns-then-body-ne0 c = packed-not-words c.if-body-ne0.true (into-answer c.into.ensures)

pub returns-in_err-row : goal.returns-in_err-row
returns-in_err-row c = packed-misplaced c.args.table.now c.if-body-ne0.false c.in_err-row.ensures
    (refusal-answer c.from_residual.result c.in_err-row.field-0.0 c.from_residual.ensures.1)
    (λ e. omega (arith, refusal_not_done c.in_err-row.field-0.0))

pub returns-in_err-bits : goal.returns-in_err-bits
returns-in_err-bits c = packed-refused c.args.table.now c.if-body-ne0.false c.in_ok-row.ensures refl c.in_err-bits.ensures
    (err-answer c.from_residual-in_err-bits.result c.in_err-bits.field-0.0 c.from_residual-in_err-bits.ensures.1)
    (λ e. omega (arith, c.in_err-bits.ensures.some))

pub keep-requires : goal.keep-requires
keep-requires c = let accepted = packed-accepted c.if-body-ne0.false c.in_ok-row.ensures c.in_ok-bits.ensures in
    record { n_in_bounds = omega (arith, packed-few accepted); n_le_room = packed-fits accepted }

pub returns : goal.returns
returns c = let accepted = packed-accepted c.if-body-ne0.false c.in_ok-row.ensures c.in_ok-bits.ensures in
    packed-held accepted c.after_row.ensures c.accepted.ensures c.keep.ensures
