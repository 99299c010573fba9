-- `sheet_reader::frame::read` meets its contract: a wrong length is refused, and any other record is what its body makes
-- it. Assumes nothing.
use native.Mathlib.Omega.{arith}
use mathlib.Core.Path.{refl, ap, ◌∙◌}
use Rattle.answer.specs.Refusal.{refusal_number}
use Rattle.sheet_format.specs.Reading.{refused_record}
use Rattle.answer.specs.Refusal.Laws.{refusal_not_done}
use Rattle.sheet_format.specs.Kinds.{kind_code}
use Rattle.sheet_reader.proofs.answers.Laws.{refusal-answer}
use Rattle.sheet_reader.proofs.frame.Laws.{number-right, body-short, frame-refuses, frame-leaves, unknown-leaves}
use Rattle.sheet_reader.proofs.frame.read.Goals as goal

pub returns-in_err-judge_length : goal.returns-in_err-judge_length
returns-in_err-judge_length c = frame-refuses c.in_err-judge_length.ensures
    (refusal-answer c.from_residual.result c.in_err-judge_length.field-0.0 c.from_residual.ensures.1)
    (λ e. omega (arith, refusal_not_done c.in_err-judge_length.field-0.0))

pub returns-in_err-kind : goal.returns-in_err-kind
returns-in_err-kind c = frame-leaves c.in_ok-judge_length.ensures refl c.read_u32-whole.result
    c.read_u16.result c.read_u32-whole.ensures c.read_u16.ensures
    (unknown-leaves c.in_err-kind.ensures.1
    (refusal-answer c.from_residual-in_err-kind.result c.in_err-kind.field-0.0 c.from_residual-in_err-kind.ensures.1
    ∙ ap (λ e. refused_record 0 (refusal_number e)) c.in_err-kind.ensures.0))

pub read_u32-whole-requires : goal.read_u32-whole-requires
read_u32-whole-requires c = let right = number-right c.args.sheet.now c.in_ok-judge_length.ensures refl in
    omega (arith, right.there)

pub overflow_add-whole : goal.overflow_add-whole
overflow_add-whole c = let right =
    number-right c.args.sheet.now c.in_ok-judge_length.ensures refl in
    omega (arith, right.most, c.read_u32-whole.ensures)

pub read_u16-requires : goal.read_u16-requires
read_u16-requires c = let right =
    number-right c.args.sheet.now c.in_ok-judge_length.ensures refl in
    omega (arith, right.least, right.there)

pub slice_bounds-body-count : goal.slice_bounds-body-count
slice_bounds-body-count c = let right =
    number-right c.args.sheet.now c.in_ok-judge_length.ensures refl in
    omega (arith, right.least, c.read_u32-whole.ensures)

pub slice_bounds-body-start : goal.slice_bounds-body-start
slice_bounds-body-start c = let right =
    number-right c.args.sheet.now c.in_ok-judge_length.ensures refl in
    omega (arith, right.least, c.read_u32-whole.ensures)

pub slice_bounds-body-end : goal.slice_bounds-body-end
slice_bounds-body-end c = let right =
    number-right c.args.sheet.now c.in_ok-judge_length.ensures refl in
    omega (arith, right.there, c.read_u32-whole.ensures)

pub read_body-requires : goal.read_body-requires
read_body-requires c = let right =
    number-right c.args.sheet.now c.in_ok-judge_length.ensures refl in
    body-short c.args.sheet.now c.read_u32-whole.result
    (omega (arith, right.most, c.read_u32-whole.ensures))

pub returns : goal.returns
returns c = frame-leaves c.in_ok-judge_length.ensures refl c.read_u32-whole.result
    (kind_code c.in_ok-kind.kind) c.read_u32-whole.ensures (c.in_ok-kind.ensures ∙ c.read_u16.ensures)
    c.read_body.ensures
