-- `adaptive::read::signed_number` meets its contract. Assumes nothing.
use native.Mathlib.Omega.{arith}
use mathlib.Core.Bool.{true, false}
use mathlib.Core.Path.{sym, ◌∙◌}
use Rattle.adaptive.specs.Number.{read_as}
use Rattle.std.proofs.lemmas.Result.{err_from_is_err_and}
use Rattle.adaptive.proofs.read.Laws.{gathered-whole, gathered-fault, raw-lt, value-clear, value_set, read_as-signed}
use Rattle.adaptive.proofs.read.signed_number.Goals as goal

pub returns-in_err-value : goal.returns-in_err-value
unfolding read_as
returns-in_err-value c = let p = err_from_is_err_and c.from_residual.result c.from_residual.ensures.1 in
    rw (p.1, p.2) (rw (gathered-fault c.args.s.now c.in_err-value.ensures))

pub returns-then-value : goal.returns-then-value
returns-then-value c = let w = gathered-whole c.args.s.now c.in_ok-value.ensures in
    c.in_range.ensures ∙ sym (read_as-signed w false _ (value-clear w c.if-value.true))

pub overflow_sub-value : goal.overflow_sub-value
overflow_sub-value c = omega (arith, raw-lt (gathered-whole c.args.s.now c.in_ok-value.ensures))

pub overflow_sub-value-2 : goal.overflow_sub-value-2
overflow_sub-value-2 c = omega (arith, raw-lt (gathered-whole c.args.s.now c.in_ok-value.ensures))

pub returns : goal.returns
returns c = let w = gathered-whole c.args.s.now c.in_ok-value.ensures in
    c.in_range-2.ensures ∙ sym (read_as-signed w true _ (value_set w c.if-value.false))
