use Rattle.std.proofs.Common.{arith}
use Rattle.sheet_stream.specs.Progress.Laws.{fits-first}
use Rattle.sheet_stream.specs.Step.Laws.{next-index}
use Rattle.draw_sheet.specs.Measure.Laws.{passing-first, passing-next, pass-ends}
use Rattle.draw_sheet.proofs.measure.pass_records.Goals as goal

pub loop-init : goal.loop-init
loop-init c = rw c.begin-at.ensures
    (record { index = omega arith; fits = fits-first c.args.memory.now.table; passing = passing-first c.args.memory.now.table })

pub loop-preserved : goal.loop-preserved
loop-preserved c = let step = c.in_ok-step.ensures.made in
    record {
      index = omega (arith, next-index step c.if-step.false, c.loop.invariant.index);
      fits = c.in_ok-step.ensures.fits;
      passing = passing-next step (omega (arith, c.take_record.auto)) c.loop.invariant.passing c.if-step.false c.wider-width.ensures;
    }
