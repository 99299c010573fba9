use Prim.Native.Nat.{◌+◌, ◌*◌, ◌<◌}
use native.Mathlib.Omega.{arith}
use mathlib.Core.Path.{◌≡◌, sym, ap, ◌∙◌}
use lib.ListN.{length, drop, get_or}
use lib.Seq.{get_or-drop}
use Rattle.bitstream.specs.Bits.{halves_of}
use Rattle.text.specs.Put.Laws.{put-none}
use Rattle.sheet_picture.specs.Colour.{count_index}
use Rattle.sheet_picture.specs.Grid.{widened, most_of, count_samples}
use Rattle.sheet_picture.specs.Grid.Laws.{most-some, most-at, most-below, below-halves, map_whole, row-there}
use Rattle.sheet_picture.specs.Putting.{wide-put, wide_room}
use Rattle.sheet_picture.proofs.count.put_counts.Goals as goal

pub loop-i-init : goal.loop-i-init
unfolding widened
loop-i-init c = put-none c.args.out.now c.args.at

pub count_index-sample-requires : goal.count_index-sample-requires
count_index-sample-requires c = let cs = halves_of c.args.counts.now in
    let small = most-below 65536 cs (omega arith) (below-halves c.args.counts.now) in
    let high = most-at cs (128 * c.args.j + c.loop-i.i) in
    (omega (arith, c.requires.most_value, most-some cs), omega (arith, c.requires.most_value, high, c.count_at.ensures), omega (arith, c.requires.most_value, small))

pub put_run-next-requires : goal.put_run-next-requires
put_run-next-requires c = let cs = halves_of c.args.counts.now in
    let rest = drop (128 * c.args.j) cs in
    let many = row-there cs c.args.j (map_whole c.args.counts.now (omega arith)) (omega arith) in
    let index = count_index (most_of cs) in
    omega (arith, wide_room index rest c.loop-i.i c.args.times 128 (omega arith) many (omega arith) c.loop-i.invariant)

pub loop-i-preserved : goal.loop-i-preserved
loop-i-preserved c = let cs = halves_of c.args.counts.now in
    let rest = drop (128 * c.args.j) cs in
    let many = row-there cs c.args.j (map_whole c.args.counts.now (omega arith)) (omega arith) in
    let inside : c.loop-i.i < length rest = omega (arith, many) in
    let is : c.count_index-sample.result ≡ count_index (most_of cs) (get_or rest c.loop-i.i 0) =
    c.count_index-sample.ensures
    ∙ rw c.requires.most_value (ap (count_index (most_of cs)) (c.count_at.ensures ∙ sym (get_or-drop (128 * c.args.j) cs c.loop-i.i 0))) in
    wide-put (count_index (most_of cs)) rest inside is c.args.times (omega arith) c.loop-i.invariant c.put_run-next.ensures

pub returns : goal.returns
unfolding count_samples
returns c = let all : c.loop-i.i ≡ 128 = omega arith in
    rw all at c.loop-i.invariant
