-- `row_reader::step::Place::impossible` meets its contract: by the first of the tests that is true. Assumes nothing.
use native.Mathlib.Omega.{arith}
use mathlib.Core.Bool.{true, false}
use Rattle.row_reader.specs.Step.Laws.{impossible-many, impossible-far, impossible-high, impossible-begun}
use Rattle.row_reader.proofs.step.Place.impossible.Goals as goal

pub returns-then-count-gt-MAX_PIXELS : goal.returns-then-count-gt-MAX_PIXELS
returns-then-count-gt-MAX_PIXELS c = impossible-many c.args.self (omega arith)

pub returns-then-count-self : goal.returns-then-count-self
returns-then-count-self c = impossible-far c.args.self (omega arith) (omega arith)

pub returns-then-p-gt4093 : goal.returns-then-p-gt4093
returns-then-p-gt4093 c = impossible-high c.args.self (omega arith) (omega arith) (omega arith)

pub returns-then-p : goal.returns-then-p
returns-then-p c = impossible-begun c.args.self (omega arith) (omega arith) true (omega arith) c.if-p.true

pub returns : goal.returns
returns c = impossible-begun c.args.self (omega arith) (omega arith) false (omega arith) c.if-p.false
