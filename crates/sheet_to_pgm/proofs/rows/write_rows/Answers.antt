use Rattle.std.proofs.Common.{ℕ, arith, sym, ap, ◌∙◌}
use Rattle.sheet_stream.specs.Progress.Laws.{fits-first, underway-first}
use Rattle.sheet_stream.specs.Step.Laws.{next-index, underway-next}
use Rattle.sheet_to_pgm.specs.Written.{lines_after}
use Rattle.sheet_to_pgm.specs.Written.Laws.{row-brought, lines_next}
use Rattle.sheet_to_pgm.proofs.rows.write_rows.Goals as goal

pub loop-init : goal.loop-init
loop-init c = rw c.begin-at.ensures
    (record {
      index = omega arith;
      fits = fits-first c.args.memory.now.table;
      underway = underway-first c.args.memory.now.table;
      lines = c.none-lines.ensures;
    })

pub write_record-requires-clause-row_brought : goal.write_record-requires-clause-row_brought
write_record-requires-clause-row_brought c =
    let brought = row-brought c.in_ok-step.ensures.made c.if-step.false c.loop.invariant.underway in
    rw c.loop.invariant.lines brought

pub loop-preserved : goal.loop-preserved
loop-preserved c = let step = c.in_ok-step.ensures.made in
    let after = ap (λ (n : ℕ). lines_after n c.in_ok-step.step.read) c.loop.invariant.lines in
    rw c.write_record.ensures.table
    (record {
      index = omega (arith, next-index step c.if-step.false, c.loop.invariant.index);
      fits = c.in_ok-step.ensures.fits;
      underway = underway-next step c.if-step.false c.loop.invariant.underway;
      lines = c.in_ok-lines.ensures.lines ∙ after ∙ lines_next step c.if-step.false c.loop.invariant.underway;
    })
