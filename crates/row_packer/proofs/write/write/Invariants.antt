-- `row_packer::write::write` meets its contract. The loop's invariant: what the writer holds and the bits of what is left are the
-- row's bits, and the memory after the words stored is as it was. Assumes nothing.
use Rattle.bitstream.specs.Bits.{words_of, halves_of}
use Rattle.row_packer.proofs.write.WriteTurn.{Writing}
use Rattle.row_packer.proofs.write.write.Given as goal

abbrev pub invariant-loop-i : goal.invariant-loop-i
invariant-loop-i l = Writing (words_of l.table.bytes.now) (halves_of l.row.pixels.now) l.initial.words l.words l.w l.p l.i
