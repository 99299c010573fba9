use native.Mathlib.Omega.{arith}
use Rattle.bitstream.specs.Bits.{halves_of}
use Rattle.row_pixels.specs.Laws.{inside-halves, past-halves}
use Rattle.mat_map.proofs.Laws.{halves-low}
use Rattle.mat_map.proofs.put_pixel.Laws.{pixels-none, pixels-room, pixels-more, pixels-all}
use Rattle.mat_map.proofs.put_pixel.put_pixels.Goals as goal

pub loop-i-init : goal.loop-i-init
loop-i-init c = pixels-none (halves_of c.args.group.now) c.args.out.now c.args.w c.requires

pub put_pixel-v-requires : goal.put_pixel-v-requires
put_pixel-v-requires c = record { x_bound = halves-low c.args.group.now c.loop-i.i c.pixel_at.ensures; room = pixels-room c.loop-i.invariant (inside-halves c.args.group.now (omega arith)) c.pixel_at.ensures c.requires }

pub loop-i-preserved : goal.loop-i-preserved
loop-i-preserved c = let inside = inside-halves c.args.group.now (omega arith) in
    pixels-more c.loop-i.invariant inside c.pixel_at.ensures c.put_pixel-v.ensures c.out-1.given

pub shape_of-out : goal.shape_of-out
shape_of-out c = c.loop-i.invariant.putting.kept

pub returns : goal.returns
returns c = pixels-all c.loop-i.invariant (past-halves c.args.group.now (omega arith))
