use Rattle.std.proofs.Common.{◌≡◌, ◌+◌, ◌*◌, refl, arith}
use Rattle.text.specs.Put.Laws.{put-none, put-put}
use Rattle.sheet_to_pgm.specs.Written.Laws.{pads-none, pads-more}
use Rattle.sheet_to_pgm.proofs.pads.put_pads.Goals as goal

pub loop-i-init : goal.loop-i-init
loop-i-init c = let start = put-none c.args.out.now c.args.at in
    rw (pads-none c.args.height) (record { next = omega arith; memory = start.memory })

pub loop-i-preserved : goal.loop-i-preserved
loop-i-preserved c = let place : c.args.at + 2 * c.loop-i.i + 2 ≡ c.args.at + 2 * (c.loop-i.i + 1) = omega arith in
    let sample = rw c.from.ensures at c.put_sample.ensures in
    let more = put-put (omega arith) c.loop-i.invariant sample in
    rw (pads-more c.loop-i.i c.args.height) (rw place at more)

pub returns : goal.returns
returns c = let all : c.loop-i.i ≡ c.args.n = omega arith in
    record { put = rw all at c.loop-i.invariant; most = refl }
