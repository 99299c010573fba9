-- `table_listing::arrange::arrange`: no bits to go, at most one string, or the parts in order one after the other. Assumes nothing.
use native.Mathlib.Omega.{arith}
use mathlib.Core.Path.{sym}
use Prim.Native.Nat.{◌-◌}
use Rattle.bitstream.specs.Bits.{words_of}
use Rattle.row_format.specs.Table.{codeword_at}
use Rattle.table_listing.specs.Listing.Laws.{codeword_at-bits}
use Rattle.table_listing.proofs.arrange.ArrangeLaws.{order-end, order-few, step}
use Rattle.table_listing.proofs.arrange.+arrange.Goals as goal

pub returns-then-left-eq0 : goal.returns-then-left-eq0
returns-then-left-eq0 t c =
    order-end (codeword_at (words_of c.args.table.now)) c.args.left (27 - c.args.left) c.args.list.now c.if-left-eq0.true

pub returns-then-list-lt2 : goal.returns-then-list-lt2
returns-then-list-lt2 t c =
    let b = words_of c.args.table.now in
    sym (order-few (codeword_at b) (codeword_at-bits b) c.args.left (27 - c.args.left) c.args.list.now c.if-list-lt2.true)

pub returns : goal.returns
returns t c =
    step (codeword_at (words_of c.args.table.now)) c.args.left c.args.list.now (omega arith) c.requires.left_bound c.part-parts.ensures
    c.arrange.new.list c.arrange-2.new.list c.arrange.auto.list c.arrange.ensures c.arrange-2.ensures
