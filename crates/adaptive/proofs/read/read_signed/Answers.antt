-- `adaptive::read::read_signed` meets its contract. Assumes nothing.
use mathlib.Core.Path.{◌∙◌, ap}
use Rattle.adaptive.specs.Calls.{signed_answer, signed_read}
use Rattle.adaptive.proofs.read.read_signed.Goals as goal

pub returns : goal.returns
unfolding signed_read
returns c = c.into.ensures ∙ ap signed_answer c.signed_number.ensures
