-- `bitstream::number::read_u32` meets its contract: each byte counts 256 times the one before. Assumes nothing.
use Rattle.std.proofs.Common.{◌+◌, arith}
use Rattle.bitstream.specs.Memory.Laws.{byte_in, read-four}
use Rattle.bitstream.proofs.number.read_u32.Goals as goal

pub returns : goal.returns
returns c =
    let b = byte_in c.args.s.now (λ i. (c.type_inv.s i).fits) in
    let at = c.args.at in
    omega (arith, c.from_le_bytes.ensures, read-four at (b at) (b (at + 1)) (b (at + 2)) (b (at + 3)))
