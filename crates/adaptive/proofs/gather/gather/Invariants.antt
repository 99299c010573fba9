-- `adaptive::gather::gather` meets its contract. The loop's invariant: i bytes are taken, all of which another follows; `raw`
-- is their data bits, `span` is 128 ^ i, and the answer is that of what is left with them before it. Assumes nothing.
use Rattle.adaptive.proofs.gather.GatherTurn.{Taken}
use Rattle.adaptive.proofs.gather.gather.Given as goal

abbrev pub invariant-loop-i : goal.invariant-loop-i
invariant-loop-i l = Taken l.s l.raw l.span l.i
