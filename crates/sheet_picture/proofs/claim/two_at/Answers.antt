-- `sheet_picture::claim::two_at` meets its contract: two bytes make a number. Assumes nothing.
use native.Mathlib.Omega.{arith}
use Rattle.bitstream.specs.Memory.Laws.{read-two}
use Rattle.sheet_picture.proofs.claim.two_at.Goals as goal

pub returns : goal.returns
returns c = record { is = read-two c.args.at c.byte_or_zero-b0.ensures c.byte_or_zero-b1.ensures; small = omega (arith, c.byte_or_zero-b0.ensures.small, c.byte_or_zero-b1.ensures.small) }
