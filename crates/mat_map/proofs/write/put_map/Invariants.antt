-- `mat_map::write::put_map` meets its contract: of the groups the first i are put. Assumes nothing.
use Rattle.bitstream.specs.Bits.{halves_of}
use Rattle.mat_map.proofs.write.Laws.{PuttingMap}
use Rattle.mat_map.proofs.write.put_map.Given as goal

abbrev pub invariant-loop-i : goal.invariant-loop-i
invariant-loop-i l = PuttingMap l.k (halves_of l.counts) l.initial.out l.initial.w l.out l.w l.i
