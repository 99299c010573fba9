-- `bitstream::msb_field::four_msb` meets its contract: each byte counts 256 times the one after. Assumes nothing.
use Rattle.std.proofs.Common.{◌+◌, arith}
use Rattle.bitstream.specs.Memory.Laws.{byte_in}
use Rattle.bitstream.proofs.msb_field.Laws.{read-four}
use Rattle.bitstream.proofs.msb_field.four_msb.Goals as goal

pub returns : goal.returns
returns c =
    let b = byte_in c.args.s.now (λ i. (c.type_inv.s i).fits) in
    let i = c.args.i in
    omega (arith, c.from_be_bytes.ensures, read-four i (b i) (b (i + 1)) (b (i + 2)) (b (i + 3)))
