-- `map_text::counts::keep` meets its contract. Assumes nothing.
use native.Mathlib.Omega.{arith}
use Rattle.map_text.specs.Held.Laws.{held_more, held-full}
use Rattle.map_text.proofs.counts.keep.Goals as goal

pub returns-then-count-lt-KEPT_COUNTS : goal.returns-then-count-lt-KEPT_COUNTS
returns-then-count-lt-KEPT_COUNTS c = λ xs held. held_more c.args.v held c.if-count-lt-KEPT_COUNTS.true (omega arith) c.put_u16.ensures

pub returns : goal.returns
returns c = λ xs held. held-full c.args.v held c.if-count-lt-KEPT_COUNTS.false
