use native.Mathlib.Omega.{arith}
use mathlib.Core.Path.{refl, ap}
use Rattle.std.proofs.lemmas.Result.{err_from_is_err_and}
use Rattle.answer.specs.Refusal.Laws.{refusal_not_done}
use Rattle.adaptive.specs.Calls.{signed_answer, signed_read}
use Rattle.sheet_reader.proofs.numbers.Laws.{walk_more, walk-fault, walk-faultless, walk-used}
use Rattle.sheet_reader.proofs.numbers.judge_numbers.Goals as goal

pub returns-in_err-read-clause-number : goal.returns-in_err-read-clause-number
unfolding signed_read
returns-in_err-read-clause-number c = let p = err_from_is_err_and c.from_residual.result c.from_residual.ensures.1 in
    rw (p.1, p.2)
    (walk-fault c.loop.invariant (ap signed_answer c.in_err-read.ensures) c.loop-test.true
    (λ e. omega (arith, refusal_not_done c.in_err-read.field-0.0)))

pub loop-preserved : goal.loop-preserved
unfolding signed_read
loop-preserved c = walk_more c.loop.invariant (ap signed_answer c.in_ok-read.ensures) c.loop-test.true refl

pub returns-clause-number : goal.returns-clause-number
returns-clause-number c = walk-faultless c.loop.invariant c.loop-test.false

pub returns-clause-used : goal.returns-clause-used
returns-clause-used c = walk-used c.loop.invariant c.loop-test.false
