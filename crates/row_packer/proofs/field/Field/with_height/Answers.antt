-- `row_packer::field::Field::with_height` meets its contract: the height fits above the codeword, and the sum joins the two. Assumes nothing.
use native.Mathlib.Omega.{arith}
use Rattle.bitstream.specs.Bits.Laws.{above-fits}
use Rattle.row_packer.proofs.field.Laws.{holds-height}
use Rattle.row_packer.proofs.field.Field.with_height.Goals as goal

pub above-requires : goal.above-requires
above-requires c = record { n_bound = omega arith; low_bound = above-fits c.args.self.len 12 c.args.height c.args.self.bits c.requires.bits_bound c.requires.height_bound (omega arith) (omega arith) }

pub returns : goal.returns
returns c = holds-height c.args.self.bits c.args.self.len c.args.height c.requires.len_bound c.requires.bits_bound c.requires.height_bound
    c.above.ensures
