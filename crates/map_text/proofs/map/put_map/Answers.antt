use native.Mathlib.Omega.{arith}
use mathlib.Core.Path.{◌≡◌}
use Rattle.bitstream.specs.Bits.{halves_of}
use Rattle.text.specs.Put.Laws.{put-none, put-put}
use Rattle.map_text.specs.MapText.{rows_text, map_text}
use Rattle.map_text.specs.MapText.Laws.{rows_text-more}
use borrow.Author.Rules.{rules}
use Rattle.map_text.proofs.map.put_map.Goals as goal

pub loop-row-init : goal.loop-row-init
unfolding rows_text
loop-row-init c = (search rules, omega arith, put-none c.args.out.now 0)

pub loop-row-preserved : goal.loop-row-preserved
loop-row-preserved c = let xs = halves_of c.args.counts.now in (
  omega arith,
  omega arith,
  rw (rows_text-more c.loop-row.row xs) (put-put (omega arith) c.loop-row.invariant.2 c.put_row-next.ensures.put),
)

pub returns : goal.returns
unfolding map_text
returns c = let all : c.loop-row.row ≡ 128 = omega arith in
    record { put = rw all at c.loop-row.invariant.2; most = omega arith }
