-- `sheet_reader::plain::read_plain` meets its contract: the fields or the pixels are refused, or the pixels are kept as
-- they stand. Assumes nothing.
use native.Mathlib.Omega.{arith}
use mathlib.Core.List.{[]}
use Rattle.answer.specs.Refusal.Laws.{refusal_not_done}
use Rattle.sheet_format.specs.Context.{context_of}
use Rattle.sheet_format.specs.Context.Laws.{state_of-context_of}
use Rattle.sheet_reader.proofs.answers.Laws.{refusal-answer}
use Rattle.sheet_reader.proofs.plain.Laws.{plain-misplaced, plain-refused, plain-accepted, plain-long, plain_fits, plain-held}
use Rattle.sheet_reader.proofs.plain.read_plain.Goals as goal

pub returns-in_err-row : goal.returns-in_err-row
returns-in_err-row c = λ x shows.
    plain-misplaced c.in_err-row.ensures shows
    (refusal-answer c.from_residual.result c.in_err-row.field-0.0 c.from_residual.ensures.1)

pub returns-in_err-judge_pixels : goal.returns-in_err-judge_pixels
returns-in_err-judge_pixels c = λ x shows.
    plain-refused c.in_ok-row.ensures shows (c.in_err-judge_pixels.ensures x)
    (refusal-answer c.from_residual-in_err-judge_pixels.result c.in_err-judge_pixels.field-0.0
    c.from_residual-in_err-judge_pixels.ensures.1)
    (λ e. omega (arith, refusal_not_done c.in_err-judge_pixels.field-0.0))

pub keep-requires : goal.keep-requires
keep-requires c = let accepted =
    plain-accepted c.in_ok-row.ensures (state_of-context_of [] c.args.state)
    (c.in_ok-judge_pixels.ensures (context_of [] c.args.state)) in
    record { n_in_bounds = plain-long accepted; n_le_room = plain_fits accepted }

pub returns : goal.returns
returns c = λ x shows.
    let accepted =
    plain-accepted c.in_ok-row.ensures shows (c.in_ok-judge_pixels.ensures x) in
    plain-held accepted shows c.after_row.ensures c.accepted.ensures c.keep.ensures
