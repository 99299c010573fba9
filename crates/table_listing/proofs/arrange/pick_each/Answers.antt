-- `table_listing::arrange::pick_each`: the three ways together have each place once. Assumes nothing.
use native.Mathlib.Omega.{arith}
use Rattle.bitstream.specs.Bits.{words_of}
use Rattle.row_format.specs.Table.{codeword_at}
use Rattle.table_listing.specs.Listing.Laws.{codeword_at-bits}
use Rattle.table_listing.proofs.arrange.PickEachLaws.{picked-length, parted-all}
use Rattle.table_listing.proofs.arrange.pick_each.Goals as goal

pub pick-ends-requires : goal.pick-ends-requires
pick-ends-requires c =
    let t = words_of c.args.table.now in
    record {
      d_bound = c.requires.d_bound;
      from_in_bounds = omega (arith, picked-length (codeword_at t) (codeword_at-bits t) c.args.d c.args.from.now);
    }

pub pick-zeros-requires : goal.pick-zeros-requires
pick-zeros-requires c =
    let t = words_of c.args.table.now in
    record {
      d_bound = c.requires.d_bound;
      from_in_bounds = omega (
        arith,
        picked-length (codeword_at t) (codeword_at-bits t) c.args.d c.args.from.now,
        c.pick-ends.ensures.next,
        c.pick-ends.auto.out,
      );
    }

pub pick-requires : goal.pick-requires
pick-requires c =
    let t = words_of c.args.table.now in
    record {
      d_bound = c.requires.d_bound;
      from_in_bounds = omega (
        arith,
        picked-length (codeword_at t) (codeword_at-bits t) c.args.d c.args.from.now,
        c.pick-ends.ensures.next,
        c.pick-ends.auto.out,
        c.pick-zeros.ensures.next,
        c.pick-zeros.auto.out,
      );
    }

pub returns : goal.returns
returns c =
    let t = words_of c.args.table.now in
    parted-all (codeword_at t) (codeword_at-bits t) c.args.d c.args.from.now c.requires.from_len
    c.pick-ends.ensures c.pick-zeros.ensures c.pick.ensures
