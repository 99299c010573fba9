-- `tahliruz::tahliruz_write_signed` meets its contract: a number that fits an i32 is read back from its bits. Assumes nothing.
use mathlib.Core.Path.{ap, ◌∙◌}
use lib.IntN.{ℤ}
use borrow.Author.Rules.{rules}
use mir.Facts.{to_z-of_z}
use Rattle.adaptive.specs.Calls.{signed_written}
use Rattle.tahliruz.proofs.tahliruz_write_signed.Goals as goal

pub returns : goal.returns
returns c = let same = to_z-of_z c.ranges.value in
    c.write_signed.ensures ∙ ap (λ (v : ℤ). signed_written v c.args.out.now) same
