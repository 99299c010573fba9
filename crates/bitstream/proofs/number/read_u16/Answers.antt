-- `bitstream::number::read_u16` meets its contract: the second byte counts 256 times. Assumes nothing.
use Rattle.std.proofs.Common.{◌+◌, arith}
use Rattle.bitstream.specs.Memory.Laws.{byte_in, read-two}
use Rattle.bitstream.proofs.number.read_u16.Goals as goal

pub returns : goal.returns
returns c =
    let b = byte_in c.args.s.now (λ i. (c.type_inv.s i).fits) in
    omega (arith, c.from_le_bytes.ensures, read-two c.args.at (b c.args.at) (b (c.args.at + 1)))
