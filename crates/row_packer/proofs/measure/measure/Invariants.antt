-- `row_packer::measure::measure` meets its contract. The loop's invariant: the bits counted and the bits of what is left make
-- the row's. Assumes nothing.
use Rattle.bitstream.specs.Bits.{words_of, halves_of}
use Rattle.row_packer.proofs.measure.MeasureTurn.{Measuring}
use Rattle.row_packer.proofs.measure.measure.Given as goal

abbrev pub invariant-loop-i : goal.invariant-loop-i
invariant-loop-i l = Measuring (words_of l.table.bytes.now) (halves_of l.row.pixels.now) l.p l.bits l.i
