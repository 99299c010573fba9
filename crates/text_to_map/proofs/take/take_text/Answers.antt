use Rattle.text_to_map.specs.Made.Laws.{underway-none, underway-more}
use Rattle.text_to_map.proofs.take.take_text.Goals as goal

pub loop-init : goal.loop-init
loop-init c = rw c.begin-taken.ensures (underway-none c.args.counts.now)

pub loop-preserved : goal.loop-preserved
loop-preserved c = underway-more c.loop.invariant c.in_ok-turn.ensures.ok

pub returns-then-turn-eq0 : goal.returns-then-turn-eq0
returns-then-turn-eq0 c = underway-more c.loop.invariant c.in_ok-turn.ensures.ok
