-- `text_to_map::take::take_text`: before each turn the counts of what was read are kept. Assumes nothing.
use Rattle.text_to_map.specs.Made.{TextUnderway}
use Rattle.text_to_map.proofs.take.take_text.Given as goal

abbrev pub invariant-loop : goal.invariant-loop
invariant-loop l = TextUnderway l.taken l.counts
