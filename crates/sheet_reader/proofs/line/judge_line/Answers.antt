-- `sheet_reader::line::judge_line` meets its contract: each refusal is the next of a line's own, then the leftover,
-- and 5 is the last. Assumes nothing.
use native.Mathlib.Omega.{arith}
use Rattle.std.proofs.lemmas.Result.{err_from_is_err_and}
use Rattle.answer.specs.Refusal.Laws.{refusal_not_done}
use Rattle.sheet_reader.proofs.line.Laws.{numbers-many, numbers-fault, numbers-leftover, numbers-full, numbers-right}
use Rattle.sheet_reader.proofs.line.judge_line.Goals as goal

pub returns-then-count-gt-MAX_PIXELS : goal.returns-then-count-gt-MAX_PIXELS
returns-then-count-gt-MAX_PIXELS c = λ x.
    numbers-many c.args.body.now c.args.room c.requires.count_value x c.if-count-gt-MAX_PIXELS.true

pub returns-in_err-used : goal.returns-in_err-used
returns-in_err-used c = λ x. let p = err_from_is_err_and c.from_residual.result c.from_residual.ensures.1 in
    rw (p.1, p.2)
    (numbers-fault c.args.body.now c.args.room c.requires.count_value x c.if-count-gt-MAX_PIXELS.false
    c.in_err-used.ensures.number (λ e. omega (arith, refusal_not_done c.in_err-used.field-0.0)))

pub returns-then-used-line : goal.returns-then-used-line
returns-then-used-line c = λ x.
    numbers-leftover c.args.body.now c.args.room c.requires.count_value x c.if-count-gt-MAX_PIXELS.false
    c.in_ok-used.ensures.number c.in_ok-used.ensures.used c.if-used-line.true

pub returns-then-room-count : goal.returns-then-room-count
returns-then-room-count c = λ x.
    numbers-full c.args.body.now c.args.room c.requires.count_value x c.if-count-gt-MAX_PIXELS.false
    c.in_ok-used.ensures.number c.in_ok-used.ensures.used c.if-used-line.false c.if-room-count.true

pub returns : goal.returns
returns c = λ x.
    numbers-right c.args.body.now c.args.room c.requires.count_value x c.if-count-gt-MAX_PIXELS.false
    c.in_ok-used.ensures.number c.in_ok-used.ensures.used c.if-used-line.false c.if-room-count.false
