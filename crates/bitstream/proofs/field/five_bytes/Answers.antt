-- `field::five_bytes` meets its contract: by a number of four bytes and the fifth, or near the end byte by byte. Assumes nothing.
use native.Mathlib.Omega.{arith}
use Rattle.bitstream.specs.Memory.Laws.{read-four-one, read-five}
use Rattle.bitstream.proofs.field.five_bytes.Goals as goal

pub returns-then-i-s : goal.returns-then-i-s
returns-then-i-s c = read-four-one c.args.i (omega arith) c.read_u32-low.ensures c.byte_at-high.ensures

pub returns : goal.returns
returns c = read-five c.args.i c.byte_or_zero-b0.ensures
    c.byte_or_zero-b1.ensures c.byte_or_zero-b2.ensures c.byte_or_zero-b3.ensures
    c.byte_or_zero-b4.ensures
