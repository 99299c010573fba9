-- `text_to_map::verdict::photons` meets its contract: of the counts the first i are summed. Assumes
-- nothing.
use Rattle.bitstream.specs.Bits.{halves_of}
use Rattle.text_to_map.proofs.verdict.PhotonsTurn.{Summing}
use Rattle.text_to_map.proofs.verdict.photons.Given as goal

abbrev pub invariant-loop-i : goal.invariant-loop-i
invariant-loop-i l = Summing (halves_of l.counts) l.all l.i
