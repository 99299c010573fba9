use Rattle.sheet_picture.specs.Putting.{colours-place, colours-put, colours-all}
use native.Mathlib.Omega.{arith}
use mathlib.Core.Path.{◌≡◌}
use Rattle.text.specs.Put.Laws.{put-none}
use Rattle.sheet_picture.specs.Colour.{colours_from}
use borrow.Author.Rules.{rules}
use Rattle.sheet_picture.proofs.colour.put_palette.Goals as goal

pub loop-i-init : goal.loop-i-init
unfolding colours_from
loop-i-init c = put-none c.args.out.now 0

pub put_colour-at-requires : goal.put_colour-at-requires
put_colour-at-requires c = let place = colours-place c.loop-i.i c.loop-i.invariant in
    record { at_in_bounds = omega (arith, place); i_bound = search rules }

pub loop-i-preserved : goal.loop-i-preserved
loop-i-preserved c = colours-put c.loop-i.i c.loop-i.invariant c.put_colour-at.ensures

pub returns : goal.returns
returns c = let all : c.loop-i.i ≡ 256 = omega arith in
    colours-all c.requires (rw all at c.loop-i.invariant)
