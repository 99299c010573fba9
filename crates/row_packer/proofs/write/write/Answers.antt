use borrow.Author.Rules.{rules}
use native.Mathlib.Omega.{arith}
use mathlib.Core.Path.{refl, ◌∙◌}
use Rattle.bitstream.specs.Bits.{words_of, halves_of}
use Rattle.row_pixels.specs.Laws.{inside-halves, past-halves, pixel-most}
use Rattle.row_format.specs.Table.Laws.{accepted-table}
use Rattle.row_packer.specs.Write.Laws.{row_bits-most}
use Rattle.row_packer.proofs.write.WriteTurn.{
  writing-none,
  writing-ready,
  writing_more,
  written-closable,
  written-bits,
  written_all,
}
use Rattle.row_packer.proofs.write.write.Goals as goal

pub loop-i-init : goal.loop-i-init
loop-i-init c = writing-none (words_of c.args.table.bytes.now) (halves_of c.args.row.pixels.now) c.args.words.now c.start-w.ensures
    c.start-p.ensures

pub encode-coded-requires : goal.encode-coded-requires
encode-coded-requires c = let inside = inside-halves c.args.row.pixels.now c.loop-i-test.true in
    let low = pixel-most (halves_of c.args.row.pixels.now) c.loop-i.i c.args.row.low inside c.pixel_at-pixel.ensures in
    record { sound = c.loop-i.invariant.sound; pixel_bound = low }

pub put-w-requires : goal.put-w-requires
put-w-requires c = let inside = inside-halves c.args.row.pixels.now c.loop-i-test.true in
    let ready = writing-ready c.loop-i.invariant c.requires inside c.pixel_at-pixel.ensures c.encode-coded.ensures in
    record { ready = ready (omega arith); v_bound = search rules }

pub loop-i-preserved : goal.loop-i-preserved
loop-i-preserved c = let inside = inside-halves c.args.row.pixels.now c.loop-i-test.true in
    writing_more c.loop-i.invariant c.requires inside c.pixel_at-pixel.ensures
    c.encode-coded.ensures c.put-w.ensures c.words-1.given

pub finish-requires : goal.finish-requires
finish-requires c = written-closable c.loop-i.invariant c.requires (past-halves c.args.row.pixels.now c.loop-i-test.false)

pub total-requires : goal.total-requires
total-requires c = let bits = written-bits c.loop-i.invariant c.requires (past-halves c.args.row.pixels.now c.loop-i-test.false) in
    omega (arith, bits, row_bits-most (accepted-table c.args.table.bytes.now c.args.table.accepted) c.args.row.pixels.now refl c.args.row.few)

pub shape_of-words : goal.shape_of-words
shape_of-words c = c.words-2-1.given ∙ c.loop-i.invariant.size

pub returns : goal.returns
returns c = let all = past-halves c.args.row.pixels.now c.loop-i-test.false in
    let written = written_all c.loop-i.invariant c.requires all in
    rw c.total.ensures
    (written c.finish.ensures c.words-2-1.given
    (record { below = λ i. (c.slice_known-2-1.given i).fits }))
