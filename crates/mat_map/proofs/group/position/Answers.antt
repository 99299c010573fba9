-- `group::position`: the low bits of a window. Assumes nothing.
use Prim.Native.Nat.{ℕ, ◌/◌, ◌%◌, ◌^◌, ◌<◌}
use native.Mathlib.Nat.{mod-eq_of_lt}
use native.Mathlib.Omega.{arith}
use mathlib.Core.Path.{ap, ◌∙◌}
use lib.Pow.{shr_le}
use Rattle.mat_map.proofs.group.position.Goals as goal

pub returns : goal.returns
returns c = let low : c.args.bits / 2 ^ c.args.below < 2 ^ 32 = omega (arith, shr_le c.args.bits c.args.below) in
    c.low_bits.ensures ∙ ap (λ (d : ℕ). d % 2 ^ c.args.k) (c.window.ensures ∙ mod-eq_of_lt low)
