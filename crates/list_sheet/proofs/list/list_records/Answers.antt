use Rattle.std.proofs.Common.{arith}
use Rattle.sheet_stream.specs.Progress.Laws.{fits-first, underway-first}
use Rattle.list_sheet.specs.Step.Laws.{line-next, line-last, next-index, underway-next}
use Rattle.list_sheet.proofs.list.list_records.Goals as goal

pub loop-init : goal.loop-init
loop-init c = rw c.begin-at.ensures (record { index = omega arith; fits = fits-first c.args.table.now; underway = underway-first c.args.table.now })

pub returns-then-turn-clause-ends : goal.returns-then-turn-clause-ends
returns-then-turn-clause-ends c = line-last c.loop.invariant.underway c.in_ok-turn.ensures.made c.if-turn.true

pub print_line-requires : goal.print_line-requires
print_line-requires c = line-next c.loop.invariant.underway c.in_ok-turn.ensures.made

pub loop-preserved : goal.loop-preserved
loop-preserved c =
    let index = next-index c.loop.invariant.underway c.in_ok-turn.ensures.made c.if-turn.false in
    record {
      index = omega (arith, index, c.loop.invariant.index);
      fits = c.in_ok-turn.ensures.fits;
      underway = underway-next c.loop.invariant.underway c.in_ok-turn.ensures.made c.if-turn.false;
    }
