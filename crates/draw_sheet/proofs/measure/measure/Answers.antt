-- `draw_sheet::measure::measure` meets its contract: where the sheet is refused, the records behind the fault are asked too. Assumes
-- nothing.
use Rattle.std.proofs.Common.{◌≡◌, max, arith}
use Rattle.draw_sheet.specs.Measure.Laws.{measures-whole, measures-broken, pass-said}
use Rattle.draw_sheet.proofs.measure.measure.Goals as goal

pub returns-then-step-eq0 : goal.returns-then-step-eq0
returns-then-step-eq0 c =
    let wide : c.max.result ≡ max 1 c.in_ok-passed.passed.width = omega (arith, c.max.ensures) in
    let tall : c.max-then-step-eq0.result ≡ max 1 c.in_ok-passed.passed.step.next.state.least_row =
    omega (arith, c.max-then-step-eq0.ensures) in
    rw (wide, tall) (measures-whole c.in_ok-passed.ensures.ends c.if-step-eq0.true)

pub returns : goal.returns
returns c = measures-broken c.in_ok-passed.ensures.ends c.if-step-eq0.false c.in_ok-behind.ensures
