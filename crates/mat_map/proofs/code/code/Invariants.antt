-- `code::code`: before each turn so many zeros were read. Assumes nothing.
use Rattle.bitstream.specs.Msb.{msb_bits_of}
use Rattle.mat_map.proofs.code.Laws.{Zeros}
use Rattle.mat_map.proofs.code.code.Given as goal

abbrev pub invariant-loop-zeros : goal.invariant-loop-zeros
invariant-loop-zeros l = Zeros (msb_bits_of l.s) l.at l.next l.zeros
