use Rattle.std.proofs.Common.{arith, sym, ◌∙◌}
use Rattle.draw_sheet.specs.Ahead.Laws.{onward-none, onward-more}
use Rattle.draw_sheet.proofs.advance.advance.Goals as goal

pub loop-now-init : goal.loop-now-init
loop-now-init c = record { fits = c.requires.carried_fits; within = c.requires.count_bound; held = c.requires.held_bound; onward = λ w. onward-none w }

pub loop-now-preserved : goal.loop-now-preserved
loop-now-preserved c = let next = c.in_ok-next.ensures in
    record {
      fits = next.fits;
      within = next.within;
      held = next.held;
      onward = λ w. onward-more w (c.loop-now.invariant.onward w) (next.onward (c.loop-now.invariant.onward w).now);
    }

pub returns-then-next-clause-onward : goal.returns-then-next-clause-onward
returns-then-next-clause-onward c =
    λ w. onward-more w (c.loop-now.invariant.onward w) (c.in_ok-next.ensures.onward (c.loop-now.invariant.onward w).now)
