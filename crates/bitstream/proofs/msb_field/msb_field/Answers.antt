-- `bitstream::msb_field::msb_field` meets its contract: four bytes from the byte of the place on hold the bits. Assumes nothing.
use Prim.Native.Nat.{◌/◌, ◌%◌}
use native.Mathlib.Omega.{arith}
use lib.ListN.{drop}
use lib.Pow.{pow_pos}
use Rattle.bitstream.specs.Bits.Laws.{above-fits}
use Rattle.bitstream.specs.Msb.{msb_bits_of}
use Rattle.bitstream.specs.Msb.Laws.{below-msb_bits_of}
use Rattle.bitstream.proofs.msb_field.Laws.{four-lt, field-of-four}
use Rattle.bitstream.proofs.msb_field.msb_field.Goals as goal

pub above-ahead-requires : goal.above-ahead-requires
above-ahead-requires c = let rest = drop (c.args.at / 8) c.args.s.now in
    let n = c.args.at % 8 in record {
      n_bound = omega arith;
      low_bound = above-fits n 32 c.four_or_zero-four.result 0 (pow_pos n)
          (rw c.four_or_zero-four.ensures (four-lt (msb_bits_of rest) (below-msb_bits_of rest))) (omega arith) (omega arith);
    }

pub returns : goal.returns
returns c = rw (c.above.ensures, c.above-ahead.ensures)
    (field-of-four c.args.s.now c.args.at c.args.n c.requires.n_bound c.requires.n_bound_2 c.four_or_zero-four.result
    c.four_or_zero-four.ensures)
