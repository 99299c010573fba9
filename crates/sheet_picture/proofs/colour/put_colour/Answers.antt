-- `sheet_picture::colour::put_colour` meets its contract: a grey, a colour of its own, or a green. Assumes nothing.
use Prim.Native.Nat.{◌≤◌, ◌<◌}
use native.Mathlib.Omega.{arith}
use borrow.Author.Tests.{lt-ltb, le-ltb}
use Rattle.sheet_picture.specs.Colour.{colour_of}
use Rattle.sheet_picture.proofs.colour.put_colour.Goals as goal

pub returns-then-i-lt178 : goal.returns-then-i-lt178
unfolding colour_of
returns-then-i-lt178 c = let low : c.args.i < 178 = omega arith in
    rw (lt-ltb c.args.i 178 low) c.put_rgb.ensures

pub returns-then-i-lt184 : goal.returns-then-i-lt184
unfolding colour_of
returns-then-i-lt184 c = let low : 178 ≤ c.args.i = omega arith in
    let high : c.args.i < 184 = omega arith in
    rw (le-ltb c.args.i 178 low, lt-ltb c.args.i 184 high) c.put_own.ensures

pub returns : goal.returns
unfolding colour_of
returns c = let low : 178 ≤ c.args.i = omega arith in
    let high : 184 ≤ c.args.i = omega arith in
    rw (le-ltb c.args.i 178 low, le-ltb c.args.i 184 high) c.put_green.ensures
