use Rattle.bitstream.specs.Bits.{halves_of}
use Rattle.row_pixels.specs.Laws.{inside-halves, past-halves}
use Rattle.row_pixels.proofs.AnyAboveTurn.{looking-none, looking-low, looking-high, looked-all}
use Rattle.row_pixels.proofs.any_above.Goals as goal
use Rattle.row_pixels.proofs.any_above.Goals.{then-pixel_at-gt-MAX_PIXEL, else-pixel_at-gt-MAX_PIXEL}

pub loop-i-init : goal.loop-i-init
loop-i-init c = looking-none (halves_of c.args.pixels.now)

pub loop-i-preserved : goal.loop-i-preserved
loop-i-preserved c = let inside = inside-halves c.args.pixels.now c.loop-i-test.true in
    elim c.if-pixel_at-gt-MAX_PIXEL.branch [
      | then-pixel_at-gt-MAX_PIXEL w ↦
          rw w.above-is (looking-high c.loop-i.invariant inside c.pixel_at.ensures w.if-pixel_at-gt-MAX_PIXEL.true)
      | else-pixel_at-gt-MAX_PIXEL w ↦
          rw w.above-is (looking-low c.loop-i.invariant inside c.pixel_at.ensures w.if-pixel_at-gt-MAX_PIXEL.false)
    ]

pub returns : goal.returns
returns c = looked-all c.loop-i.invariant (past-halves c.args.pixels.now c.loop-i-test.false)
