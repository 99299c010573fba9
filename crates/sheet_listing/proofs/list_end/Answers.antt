-- `sheet_listing::list_end`: the line is made aside and then given. Assumes nothing.
use native.Mathlib.Omega.{arith}
use mathlib.Core.Path.{sym}
use lib.Seq.{length-take-le}
use Rattle.text.specs.Put.Laws.{put_front}
use Rattle.sheet_listing.proofs.list_end.Goals as goal

pub slice_bounds-give-end : goal.slice_bounds-give-end
slice_bounds-give-end c = sym
    (length-take-le c.put_last_line-n.result c.put_last_line-n.new.out
    (omega (arith, c.put_last_line-n.auto.out)))

pub give-requires : goal.give-requires
give-requires c = omega (
  arith,
  length-take-le c.put_last_line-n.result c.put_last_line-n.new.out
      (omega (arith, c.put_last_line-n.auto.out)),
)

pub returns : goal.returns
returns c = record { given = rw c.into.ensures (rw (put_front c.put_last_line-n.ensures.put) at c.give.ensures); most = omega (arith, c.put_last_line-n.ensures.put.next, c.put_last_line-n.ensures.most) }
