use Rattle.std.proofs.Common.{◌+◌, ◌≤◌, ◌<◌, ◌≡◌, ◌%◌, ap, ◌∙◌, arith, map, length}
use Rattle.row_format.specs.Table.{codeword}
use Rattle.text.specs.Text.{digit}
use Rattle.table_listing.proofs.line.PutBitsTurn.{putting-none, putting-more, putting-all}
use Rattle.table_listing.specs.Line.Laws.{length-bits}
use Rattle.table_listing.proofs.line.Laws.{get_d_bits}
use Rattle.table_listing.proofs.line.put_bits.Goals as goal

pub loop-i-init : goal.loop-i-init
loop-i-init c = putting-none c.args.out.now c.args.at (map digit (codeword c.args.w))

pub loop-i-preserved : goal.loop-i-preserved
loop-i-preserved c = let room : c.args.at + length (map digit (codeword c.args.w)) ≤ length c.args.out.now = omega (arith, length-bits c.args.w, c.requires) in
    let inside : c.loop-i.i < length (map digit (codeword c.args.w)) = omega (arith, length-bits c.args.w, c.loop-i-test.true) in
    let bit = ap digit c.bit_of.ensures ∙ get_d_bits c.args.w c.loop-i.i c.loop-i-test.true in
    putting-more _ room inside bit c.loop-i.invariant

pub returns-clause-put : goal.returns-clause-put
returns-clause-put c =
    let all : c.args.w % 32 ≡ c.loop-i.i = omega (arith, c.loop-i-test.false, c.loop-i.auto.i-end) in
    rw all (putting-all (omega (arith, length-bits c.args.w, c.loop-i-test.false)) c.loop-i.invariant)
