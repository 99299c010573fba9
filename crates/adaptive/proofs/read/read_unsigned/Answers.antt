-- `adaptive::read::read_unsigned` meets its contract. Assumes nothing.
use mathlib.Core.Path.{◌∙◌, ap}
use Rattle.adaptive.specs.Calls.{unsigned_answer, unsigned_read}
use Rattle.adaptive.proofs.read.read_unsigned.Goals as goal

pub returns : goal.returns
unfolding unsigned_read
returns c = c.into.ensures ∙ ap unsigned_answer c.unsigned_number.ensures
