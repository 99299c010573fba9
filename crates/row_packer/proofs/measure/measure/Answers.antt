use native.Mathlib.Omega.{arith}
use Rattle.bitstream.specs.Bits.{words_of, halves_of}
use Rattle.row_pixels.specs.Laws.{inside-halves, past-halves, pixel-most}
use Rattle.row_packer.proofs.measure.MeasureTurn.{measuring-none, measuring-more, measured-all}
use Rattle.row_packer.proofs.measure.measure.Goals as goal

pub loop-i-init : goal.loop-i-init
loop-i-init c = measuring-none (words_of c.args.table.bytes.now) (halves_of c.args.row.pixels.now) c.start-p.ensures

pub encode-coded-requires : goal.encode-coded-requires
encode-coded-requires c = let inside = inside-halves c.args.row.pixels.now c.loop-i-test.true in
    let low = pixel-most (halves_of c.args.row.pixels.now) c.loop-i.i c.args.row.low inside c.pixel_at-pixel.ensures in
    record { sound = c.loop-i.invariant.sound; pixel_bound = low }

pub overflow_add-bits : goal.overflow_add-bits
overflow_add-bits c = record { fits = omega (arith, c.encode-coded.ensures.bits.most, c.loop-i.invariant.most, c.args.row.few, c.loop-i-test.true) }

pub loop-i-preserved : goal.loop-i-preserved
loop-i-preserved c = let inside = inside-halves c.args.row.pixels.now c.loop-i-test.true in
    measuring-more c.loop-i.invariant inside c.pixel_at-pixel.ensures c.encode-coded.ensures

pub returns : goal.returns
returns c = measured-all c.loop-i.invariant (past-halves c.args.row.pixels.now c.loop-i-test.false)
