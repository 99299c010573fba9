-- `table_listing::arrange::pick`: a turn puts a place that goes the way. Assumes nothing.
use Rattle.std.proofs.Common.{sym, ◌∙◌, arith}
use Rattle.table_listing.proofs.arrange.PickTurn.{picking-none, picking-some, picking-other, picking-all, picking-room}
use Rattle.table_listing.proofs.arrange.WayLaws.{same-way, other-way}
use Rattle.table_listing.proofs.arrange.pick.Goals as goal
use Rattle.table_listing.proofs.arrange.pick.Goals.{then-eq, else-eq}

pub loop-place-init : goal.loop-place-init
loop-place-init c = picking-none

-- there is room for a place that goes the way
pub offset_bounds-out-next : goal.offset_bounds-out-next
offset_bounds-out-next c =
    omega (
      arith,
      picking-room c.loop-place-test.true c.loop-place.invariant (sym c.way_of.ensures ∙ same-way _ _ c.if-eq.ensures)
          c.requires.from_in_bounds,
    )

pub bounds-out-next : goal.bounds-out-next
bounds-out-next c =
    omega (
      arith,
      picking-room c.loop-place-test.true c.loop-place.invariant (sym c.way_of.ensures ∙ same-way _ _ c.if-eq.ensures)
          c.requires.from_in_bounds,
    )

pub loop-place-preserved : goal.loop-place-preserved
loop-place-preserved c =
    elim c.if-eq.branch [
      | then-eq w ↦ rw (w.out-is, w.next-is)
          (picking-some c.loop-place-test.true c.loop-place.invariant (sym c.way_of.ensures ∙ same-way _ _ w.if-eq.ensures)
          c.requires.from_in_bounds)
      | else-eq w ↦ rw (w.out-is, w.next-is)
          (picking-other c.loop-place-test.true c.loop-place.invariant
          (λ e. other-way _ _ w.if-eq.ensures (c.way_of.ensures ∙ e)))
    ]

pub returns : goal.returns
returns c = picking-all c.loop-place-test.false c.loop-place.invariant
