-- `pgm_reader::put::put_samples` meets its contract. Assumes nothing.
use Rattle.std.proofs.Common.{rules, arith, ◌≡◌, ◌≤◌, ◌<◌, ◌+◌, ◌*◌, ◌/◌, ℕ, refl, ap, ◌∙◌, length, take}
use Rattle.std.proofs.Math.Seq.{take-length}
use Rattle.bitstream.specs.Bits.{bits_of, halves_of}
use Rattle.bitstream.specs.Bits.Laws.{below-cut, below-flat}
use Rattle.row_pixels.specs.Laws.{length-halves}
use Rattle.text.specs.Put.Laws.{put-none, put-put}
use Rattle.pgm_format.specs.Samples.Laws.{samples-none, samples-more}
use Rattle.pgm_reader.proofs.put.put_samples.Goals as goal

pub loop-i-init : goal.loop-i-init
loop-i-init c =
    let hs = halves_of c.args.pixels.now in
    let here : c.args.at ≡ c.args.at + 2 * 0 = omega arith in
    (refl, rw (samples-none hs, ← here) (put-none c.args.out.now c.args.at))

pub put_sample-requires-clause-height_bound : goal.put_sample-requires-clause-height_bound
put_sample-requires-clause-height_bound c =
    let small = (below-cut 16 (length c.args.pixels.now / 2) (bits_of c.args.pixels.now) (below-flat 8 c.args.pixels.now)).below c.loop-i.i in
    rw c.pixel_at.ensures small

pub loop-i-preserved : goal.loop-i-preserved
loop-i-preserved c =
    let hs = halves_of c.args.pixels.now in
    let inside : c.loop-i.i < length hs = omega (arith, length-halves c.args.pixels.now) in
    let room : c.args.at ≤ length c.args.out.now = omega arith in
    let place : c.args.at + 2 * c.loop-i.i + 2 ≡ c.args.at + 2 * (c.loop-i.i + 1) = omega arith in
    let more = put-put room c.loop-i.invariant.1 (rw c.pixel_at.ensures at c.put_sample.ensures) in
    (search rules, rw (samples-more hs c.loop-i.i inside, ← place) more)

pub returns-clause-put : goal.returns-clause-put
returns-clause-put c =
    let hs = halves_of c.args.pixels.now in
    let all : c.loop-i.i ≡ length hs = omega (arith, length-halves c.args.pixels.now) in
    let last : c.args.at + 2 * c.loop-i.i ≡ c.args.at + 2 * (length c.args.pixels.now / 2) = omega arith in
    rw (ap (λ (n : ℕ). take n hs) all ∙ take-length hs, last) at c.loop-i.invariant.1
