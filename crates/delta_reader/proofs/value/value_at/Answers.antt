-- `delta_reader::value::value_at` meets its contract. Assumes nothing.
use native.Mathlib.Omega.{arith}
use Rattle.delta_reader.specs.Offset.Laws.{elements-few}
use Rattle.delta_reader.specs.Offset.Laws.{width_of}
use Rattle.delta_reader.proofs.value.value_at.Goals as goal

pub overflow_add-at : goal.overflow_add-at
overflow_add-at c = record { fits = omega (arith, elements-few c.args.value.bytes.now (width_of c.args.value.bits c.args.value.width)) }
