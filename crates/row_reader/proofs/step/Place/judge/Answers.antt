-- `row_reader::step::Place::judge` meets its contract: by the first of the tests that is true. Assumes nothing.
use native.Mathlib.Omega.{arith}
use mathlib.Core.Path.{sym, ◌∙◌}
use Rattle.row_reader.specs.Step.Laws.{place_number-other, place_number-unopened, place_number-impossible, place_number-full}
use Rattle.row_reader.specs.Step.Laws.{place_number-none}
use Rattle.row_reader.proofs.step.Place.judge.Goals as goal

pub returns-in-1 : goal.returns-in-1
returns-in-1 c = sym c.in-1.is ∙ place_number-unopened c.args.self (omega arith) (λ z. omega arith)

pub returns-in-2 : goal.returns-in-2
returns-in-2 c = sym c.in-2.is ∙ place_number-unopened c.args.self (omega arith) (λ z. omega arith)

pub returns-in-3 : goal.returns-in-3
returns-in-3 c = sym c.in-3.is ∙ place_number-unopened c.args.self (omega arith) (λ z. omega arith)

pub returns-in_default : goal.returns-in_default
returns-in_default c = place_number-other c.args.self (omega (arith, c.in_default))

pub returns-then-impossible : goal.returns-then-impossible
returns-then-impossible c = let found = sym c.impossible.ensures ∙ c.if-impossible.true in
    place_number-impossible c.args.self c.in-0.is found

pub returns-then-self-ge-MAX_PIXELS : goal.returns-then-self-ge-MAX_PIXELS
returns-then-self-ge-MAX_PIXELS c = let possible = sym c.impossible.ensures ∙ c.if-impossible.false in
    place_number-full c.args.self c.in-0.is possible (omega arith)

pub returns : goal.returns
returns c = let possible = sym c.impossible.ensures ∙ c.if-impossible.false in
    place_number-none c.args.self c.in-0.is possible (omega arith)
