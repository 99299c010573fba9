-- `sheet_reader::line::read_line` meets its contract: the count is missing, no table stands first, the numbers are
-- refused, or they are kept. Assumes nothing.
use native.Mathlib.Omega.{arith}
use mathlib.Core.List.{[]}
use mathlib.Core.Path.{refl}
use Rattle.answer.specs.Refusal.Laws.{refusal_not_done}
use Rattle.sheet_format.specs.Context.{no_heading, context_of}
use Rattle.sheet_format.specs.Context.Laws.{state_of-context_of}
use Rattle.sheet_reader.proofs.answers.Laws.{refusal-answer, into-answer}
use Rattle.sheet_reader.proofs.line.Laws.{line-missing, line-misplaced, line_refused, line-accepted, line-right, line-fits, line-held}
use Rattle.sheet_reader.proofs.line.read_line.Goals as goal

pub returns-then-body-lt2 : goal.returns-then-body-lt2
returns-then-body-lt2 c = λ x shows. line-missing c.if-body-lt2.true (into-answer c.into.ensures)

pub returns-in_err-line_place : goal.returns-in_err-line_place
returns-in_err-line_place c = λ x shows.
    line-misplaced c.if-body-lt2.false (c.in_err-line_place.ensures x no_heading shows)
    (refusal-answer c.from_residual.result c.in_err-line_place.field-0.0 c.from_residual.ensures.1)
    (λ e. omega (arith, refusal_not_done c.in_err-line_place.field-0.0))

pub returns-in_err-judge_line : goal.returns-in_err-judge_line
returns-in_err-judge_line c = λ x shows.
    line_refused c.if-body-lt2.false (c.in_ok-line_place.ensures x no_heading shows) refl
    (c.in_err-judge_line.ensures x)
    (refusal-answer c.from_residual-in_err-judge_line.result c.in_err-judge_line.field-0.0
    c.from_residual-in_err-judge_line.ensures.1)
    (λ e. omega (arith, refusal_not_done c.in_err-judge_line.field-0.0))

pub keep_numbers-requires : goal.keep_numbers-requires
keep_numbers-requires c = let x = context_of [] c.args.state in
    let accepted =
    line-accepted c.args.body.now x c.if-body-lt2.false
    (c.in_ok-line_place.ensures x no_heading (state_of-context_of [] c.args.state)) refl
    c.read_u16-count.ensures (c.in_ok-judge_line.ensures x) refl in
    record { line_value = line-right accepted; count_bound = line-fits accepted }

pub returns : goal.returns
returns c = λ x shows.
    let accepted =
    line-accepted c.args.body.now x c.if-body-lt2.false (c.in_ok-line_place.ensures x no_heading shows)
    refl c.read_u16-count.ensures (c.in_ok-judge_line.ensures x) refl in
    line-held accepted shows c.accepted.ensures c.keep_numbers.ensures
