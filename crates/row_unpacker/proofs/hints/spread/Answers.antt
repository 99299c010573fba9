use native.Mathlib.Omega.{arith}
use lib.Pow.{pow_pos, pow_mono}
use Rattle.row_unpacker.proofs.hints.spread.Goals as goal

pub overflow_add-k : goal.overflow_add-k
overflow_add-k c = record { fits = omega (arith, pow_mono {i = c.args.len} {j = 31} (omega arith)) }

pub loop-k-smaller : goal.loop-k-smaller
loop-k-smaller c = omega (arith, pow_pos c.args.len)
