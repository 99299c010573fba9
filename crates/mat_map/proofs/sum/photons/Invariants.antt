-- `mat_map::sum::photons` meets its contract: of the counts the first i are summed. Assumes nothing.
use Rattle.bitstream.specs.Bits.{halves_of}
use Rattle.mat_map.proofs.sum.Laws.{Summing}
use Rattle.mat_map.proofs.sum.photons.Given as goal

abbrev pub invariant-loop-i : goal.invariant-loop-i
invariant-loop-i l = Summing (halves_of l.group) l.total l.i
