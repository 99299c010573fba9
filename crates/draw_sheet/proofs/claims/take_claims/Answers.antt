use Rattle.std.proofs.Common.{◌≡◌, max, take, arith, sym}
use Rattle.std.proofs.Common.{rules}
use Rattle.answer.specs.Refusal.Laws.{refusal_not_done}
use Rattle.sheet_format.specs.Record.{length_number}
use Rattle.sheet_picture.specs.Extent.{row_claimed}
use Rattle.draw_sheet.specs.Measure.Behind.{claiming-first, claiming-next, claiming-end, claimed-most}
use Rattle.draw_sheet.proofs.claims.take_claims.Goals as goal

pub loop-init : goal.loop-init
loop-init c = record { held = c.requires.taken_bound; most = omega arith; claiming = claiming-first c.requires.bytes_value }

pub returns-in_default-clause-claims : goal.returns-in_default-clause-claims
returns-in_default-clause-claims c =
    claiming-end c.loop.invariant.claiming (λ e. omega (arith, refusal_not_done c.in_default.field-0, c.in_default.ensures, e))

pub loop-preserved : goal.loop-preserved
loop-preserved c =
    let whole : length_number (take c.loop.held c.loop.memory.bytes) ≡ 0 = search (rules, sym) in
    let claimed = claimed-most (take c.loop.held c.loop.memory.bytes) in
    let more : c.max-height.result ≡ max c.loop.height (row_claimed (take c.loop.held c.loop.memory.bytes)) =
    omega (arith, c.max-height.ensures, c.row_claimed.ensures) in
    record {
      held = c.in_ok-held.ensures.within;
      most = omega (arith, claimed, more, c.loop.invariant.most);
      claiming = claiming-next c.loop.invariant.claiming whole more c.in_ok-held.ensures.held;
    }
