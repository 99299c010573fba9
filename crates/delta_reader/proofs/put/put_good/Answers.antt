-- `delta_reader::put::put_good` meets its contract. Assumes nothing.
use mathlib.Core.Path.{refl}
use Rattle.delta_reader.specs.Step.Laws.{put_if, put-if-not}
use Rattle.delta_reader.proofs.put.put_good.Goals as goal

pub returns-then-write : goal.returns-then-write
returns-then-write c = put_if c.if-write.true (c.put_element.ensures.puts _ (record { keeps = refl; marked = refl; small = c.requires.v_bound }))

pub returns-else-write : goal.returns-else-write
returns-else-write c = put-if-not c.if-write.false
