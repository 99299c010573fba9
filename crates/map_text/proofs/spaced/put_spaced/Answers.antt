use Prim.Native.Nat.{◌+◌, ◌≤◌, ◌<◌}
use native.Mathlib.Omega.{arith}
use mathlib.Core.Path.{◌≡◌}
use lib.ListN.{length}
use Rattle.bitstream.specs.Bits.{halves_of}
use Rattle.text.specs.Put.Laws.{put-none, put-put}
use Rattle.row_pixels.specs.Laws.{length-halves}
use Rattle.map_text.specs.MapText.Laws.{spaced-none, spaced-more}
use borrow.Author.Rules.{rules}
use Rattle.map_text.proofs.spaced.put_spaced.Goals as goal

pub loop-i-init : goal.loop-i-init
loop-i-init c = (
  search rules,
  omega arith,
  rw (spaced-none (halves_of c.args.counts.now) c.args.first) (put-none c.args.out.now c.args.at),
)

pub loop-i-preserved : goal.loop-i-preserved
loop-i-preserved c = let xs = halves_of c.args.counts.now in
    let inside : c.args.first + c.loop-i.i < length xs = omega (arith, length-halves c.args.counts.now) in
    let room : c.args.at ≤ length c.args.out.now = omega arith in (
      omega arith,
      omega arith,
      rw (spaced-more xs c.args.first c.loop-i.i inside) (put-put room c.loop-i.invariant.2 c.put_count-next.ensures.put),
    )

pub returns : goal.returns
returns c = let all : c.loop-i.i ≡ c.args.n = omega arith in
    record { put = rw all at c.loop-i.invariant.2; most = omega arith }
