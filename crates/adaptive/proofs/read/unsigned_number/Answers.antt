-- `adaptive::read::unsigned_number` meets its contract. Assumes nothing.
use native.Mathlib.Omega.{arith}
use borrow.Author.Tests.{lt-leb, le-leb}
use Rattle.adaptive.specs.Number.{read_as}
use Rattle.std.proofs.lemmas.Result.{err_from_is_err_and}
use Rattle.adaptive.proofs.read.Laws.{gathered-whole, gathered-fault}
use Rattle.adaptive.proofs.read.unsigned_number.Goals as goal

pub returns-in_err-value : goal.returns-in_err-value
unfolding read_as
returns-in_err-value c = let p = err_from_is_err_and c.from_residual.result c.from_residual.ensures.1 in
    rw (p.1, p.2) (rw (gathered-fault c.args.s.now c.in_err-value.ensures))

pub returns-then-value-gt4294967295 : goal.returns-then-value-gt4294967295
unfolding read_as
returns-then-value-gt4294967295 c = let w = gathered-whole c.args.s.now c.in_ok-value.ensures in
    rw w.found (rw (← w.raw, lt-leb c.in_ok-value.field-0.value.raw 4294967295 (omega arith)))

pub returns : goal.returns
unfolding read_as
returns c = let w = gathered-whole c.args.s.now c.in_ok-value.ensures in
    rw w.found
    (rw (← w.raw, le-leb c.in_ok-value.field-0.value.raw 4294967295 (omega arith), ← w.used))
