use Rattle.std.proofs.Common.{arith}
use Rattle.sheet_stream.specs.Progress.Laws.{fits-first}
use Rattle.sheet_stream.specs.Step.Laws.{next-index}
use Rattle.sheet_stream.specs.Step.Rows.{row_small}
use Rattle.sheet_to_pgm.specs.LineShape.Steps.{shape-first, shape-next, shape-found}
use Rattle.sheet_to_pgm.proofs.judge.judge_sheet.Goals as goal

pub loop-init : goal.loop-init
loop-init c = rw (c.begin-at.ensures, c.none-shape.ensures)
    (record { index = omega arith; fits = fits-first c.args.memory.now.table; underway = shape-first c.args.memory.now.table })

pub returns-then-step-eq0 : goal.returns-then-step-eq0
returns-then-step-eq0 c = shape-found c.loop.invariant.underway c.in_ok-step.ensures.made c.if-step.true c.if-step-eq0.true

pub shape_after-shape-requires : goal.shape_after-shape-requires
shape_after-shape-requires c = λ row. row_small c.in_ok-step.ensures.made c.if-step.false row

pub loop-preserved : goal.loop-preserved
loop-preserved c = let step = c.in_ok-step.ensures.made in
    record {
      index = omega (arith, next-index step c.if-step.false, c.loop.invariant.index);
      fits = c.in_ok-step.ensures.fits;
      underway = rw c.shape_after-shape.ensures (shape-next c.loop.invariant.underway step c.if-step.false);
    }
