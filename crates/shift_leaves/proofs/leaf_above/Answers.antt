-- `shift_leaves::leaf_above`: what is put together of 32 bits above 31 and 32 bits has 64 at most. Assumes nothing.
use Prim.Native.Nat.{ℕ, ◌+◌, ◌*◌, ◌%◌, ◌^◌, ◌≤◌, ◌<◌}
use native.Mathlib.Nat.{mul-le-mul, mod-lt}
use native.Mathlib.Omega.{arith}
use lib.Pow.{pow_mono}
use borrow.Author.Rules.{rules}
use Rattle.shift_leaves.proofs.leaf_above.Goals as goal

fits : (v n low : ℕ) → v < 2 ^ 32 → low < 2 ^ 32 → v * 2 ^ (n % 32) + low < 2 ^ 64
fits v n low h l =
    let places : n % 32 ≤ 31 = omega arith in
    let small : v ≤ 4294967295 = omega arith in
    omega (arith, mul-le-mul small (pow_mono places))

pub above-requires : goal.above-requires
above-requires c = record { n_bound = omega arith; low_bound = fits c.args.v c.args.n c.args.low c.ranges.v.fits c.ranges.low.fits }
