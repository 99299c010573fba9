use Rattle.std.proofs.Common.{arith}
use Rattle.sheet_stream.specs.Progress.Laws.{fits-first, underway-first}
use Rattle.sheet_stream.specs.Step.Laws.{next-index, underway-next}
use Rattle.sheet_stream.specs.AcceptedRecord.Laws.{step-next}
use Rattle.sheet_to_text.proofs.records.write_records.Goals as goal

pub loop-init : goal.loop-init
loop-init c = rw c.begin-at.ensures
    (record { index = omega arith; fits = fits-first c.args.memory.now.table; underway = underway-first c.args.memory.now.table })

pub write_record-requires-clause-accepted_record : goal.write_record-requires-clause-accepted_record
write_record-requires-clause-accepted_record c = step-next c.in_ok-step.ensures.made c.if-step.false c.loop.invariant.underway

pub loop-preserved : goal.loop-preserved
loop-preserved c = let step = c.in_ok-step.ensures.made in
    rw c.write_record.ensures
    (record {
      index = omega (arith, next-index step c.if-step.false, c.loop.invariant.index);
      fits = c.in_ok-step.ensures.fits;
      underway = underway-next step c.if-step.false c.loop.invariant.underway;
    })
